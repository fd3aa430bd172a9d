-- `exports::prskavon_route_of_account` meets its contract: it is the route library's. Assumes nothing.
use Rattle.exports.proofs.Lent.{account_route_placed}
use Rattle.exports.proofs.prskavon_route_of_account.Goals as goal

pub route_number-requires : goal.route_number-requires
route_number-requires c = rw c.route_of_account.ensures.value (account_route_placed _ _ _ _)
