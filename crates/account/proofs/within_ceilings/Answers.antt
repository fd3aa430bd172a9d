-- `account::within_ceilings` meets its contract: the code's comparisons, one after the other, are the table's. Assumes nothing.
use mathlib.Core.Path.{refl}
use borrow.Author.Rules.{rules}
use Rattle.account.proofs.Ceils.{chain_within}
use Rattle.account.proofs.within_ceilings.Goals as goal

pub returns : goal.returns
returns c = chain_within c.args.account (search rules) _ refl c.are_at_most.result c.are_at_most.ensures
