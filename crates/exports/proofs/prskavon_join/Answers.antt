-- `exports::prskavon_join` meets its contract: it lends the account library's. Assumes nothing.
use Rattle.exports.proofs.Lent.{join_placed}
use Rattle.exports.proofs.prskavon_join.Goals as goal

pub lend-requires : goal.lend-requires
lend-requires c = rw c.join.ensures (join_placed c.offered_by.result c.offered_by-2.result)
