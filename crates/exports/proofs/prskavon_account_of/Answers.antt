-- `exports::prskavon_account_of` meets its contract: it lends the account library's. Assumes nothing.
use Rattle.exports.proofs.Lent.{portion_placed}
use Rattle.exports.proofs.prskavon_account_of.Goals as goal

pub lend-requires : goal.lend-requires
lend-requires c = rw c.account_of.ensures (portion_placed c.args.portion.now)
