-- No second result, and no second content of the bytes lent, fits a public contract: over the contract's own reading. Assumes nothing.
use mathlib.Core.Path.{◌≡◌, sym, ◌∙◌}
use contract.Lifetimes.{Lfts}
use borrow.Fn.World.{ArgsD, ResD}
use borrow.Fn.Kinds.{ended_of}
use denote.Triple.Clauses.{AtExit}
use Rattle.route.specs.contracts.route_of_train as route-of-train
use Rattle.route.proofs.route_of_train.Kinds as route-of-train-kinds
use Rattle.route.proofs.route_of_train.Reads as route-of-train-reads
use Rattle.route.specs.contracts.route_of_account as route-of-account
use Rattle.route.proofs.route_of_account.Kinds as route-of-account-kinds
use Rattle.route.proofs.route_of_account.Reads as route-of-account-reads

pub route_of_train_unique : (κs : Lfts 3) (a : ArgsD route-of-train.signature κs) {r r' : ResD route-of-train.signature κs} (s s' : AtExit (ended_of 3 route-of-train-kinds.ps route-of-train-kinds.r) κs)
    → route-of-train-reads.Post κs a r s → route-of-train-reads.Post κs a r' s' → (r ≡ r') × (s.1.1.0.now ≡ s'.1.1.0.now)
route_of_train_unique κs a s s' p q = (p.0 ∙ sym q.0, p.1 ∙ sym q.1)

pub route_of_account_unique : (κs : Lfts 3) (a : ArgsD route-of-account.signature κs) {r r' : ResD route-of-account.signature κs} (s s' : AtExit (ended_of 3 route-of-account-kinds.ps route-of-account-kinds.r) κs)
    → route-of-account-reads.Post κs a r s → route-of-account-reads.Post κs a r' s' → (r ≡ r') × (s.1.1.1.0.now ≡ s'.1.1.1.0.now)
route_of_account_unique κs a s s' p q = (p.0 ∙ sym q.0, p.1 ∙ sym q.1)
