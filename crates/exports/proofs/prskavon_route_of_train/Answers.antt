-- `exports::prskavon_route_of_train` meets its contract: it is the route library's. Assumes nothing.
use Rattle.exports.proofs.Lent.{train_route_placed}
use Rattle.exports.proofs.prskavon_route_of_train.Goals as goal

pub route_number-requires : goal.route_number-requires
route_number-requires c = rw c.route_of_train.ensures.value (train_route_placed _ _ _)
