-- No second result and no second content of a lent buffer fits a public contract: over the contract's own reading. Assumes nothing.
use mathlib.Core.Path.{◌≡◌, sym, ◌∙◌}
use contract.Lifetimes.{Lfts}
use borrow.Fn.World.{ArgsD, ResD}
use borrow.Fn.Kinds.{ended_of}
use denote.Triple.Clauses.{AtExit}
use Rattle.exports.specs.contracts.prskavon_sheet_of_train as sheet-of-train
use Rattle.exports.proofs.prskavon_sheet_of_train.Kinds as sheet-of-train-kinds
use Rattle.exports.proofs.prskavon_sheet_of_train.Reads as sheet-of-train-reads
use Rattle.exports.specs.contracts.prskavon_account_of as account-of
use Rattle.exports.proofs.prskavon_account_of.Kinds as account-of-kinds
use Rattle.exports.proofs.prskavon_account_of.Reads as account-of-reads
use Rattle.exports.specs.contracts.prskavon_join as join
use Rattle.exports.proofs.prskavon_join.Kinds as join-kinds
use Rattle.exports.proofs.prskavon_join.Reads as join-reads
use Rattle.exports.specs.contracts.prskavon_sheet_of_account as sheet-of-account
use Rattle.exports.proofs.prskavon_sheet_of_account.Kinds as sheet-of-account-kinds
use Rattle.exports.proofs.prskavon_sheet_of_account.Reads as sheet-of-account-reads
use Rattle.exports.specs.contracts.prskavon_route_of_train as route-of-train
use Rattle.exports.proofs.prskavon_route_of_train.Kinds as route-of-train-kinds
use Rattle.exports.proofs.prskavon_route_of_train.Reads as route-of-train-reads
use Rattle.exports.specs.contracts.prskavon_route_of_account as route-of-account
use Rattle.exports.proofs.prskavon_route_of_account.Kinds as route-of-account-kinds
use Rattle.exports.proofs.prskavon_route_of_account.Reads as route-of-account-reads
use Rattle.exports.specs.contracts.prskavon_holds_the_speed as HoldsTheSpeed
use Rattle.exports.proofs.prskavon_holds_the_speed.Kinds as holds-the-speed-kinds
use Rattle.exports.proofs.prskavon_holds_the_speed.Reads as holds-the-speed-reads

pub sheet_of_train_unique : (κs : Lfts 3) (a : ArgsD sheet-of-train.signature κs) {r r' : ResD sheet-of-train.signature κs} (s s' : AtExit (ended_of 3 sheet-of-train-kinds.ps sheet-of-train-kinds.r) κs)
    → sheet-of-train-reads.Post κs a r s → sheet-of-train-reads.Post κs a r' s' → (r ≡ r') × (s.1.1.0.now ≡ s'.1.1.0.now)
sheet_of_train_unique κs a s s' p q = (p.0 ∙ sym q.0, p.1 ∙ sym q.1)

pub account_of_unique : (κs : Lfts 2) (a : ArgsD account-of.signature κs) {r r' : ResD account-of.signature κs} (s s' : AtExit (ended_of 2 account-of-kinds.ps account-of-kinds.r) κs)
    → account-of-reads.Post κs a r s → account-of-reads.Post κs a r' s' → (r ≡ r') × (s.1.0.now ≡ s'.1.0.now)
account_of_unique κs a s s' p q = (p.0 ∙ sym q.0, p.1 ∙ sym q.1)

pub join_unique : (κs : Lfts 3) (a : ArgsD join.signature κs) {r r' : ResD join.signature κs} (s s' : AtExit (ended_of 3 join-kinds.ps join-kinds.r) κs)
    → join-reads.Post κs a r s → join-reads.Post κs a r' s' → (r ≡ r') × (s.1.1.0.now ≡ s'.1.1.0.now)
join_unique κs a s s' p q = (p.0 ∙ sym q.0, p.1 ∙ sym q.1)

pub sheet_of_account_unique : (κs : Lfts 4) (a : ArgsD sheet-of-account.signature κs) {r r' : ResD sheet-of-account.signature κs} (s s' : AtExit (ended_of 4 sheet-of-account-kinds.ps sheet-of-account-kinds.r) κs)
    → sheet-of-account-reads.Post κs a r s → sheet-of-account-reads.Post κs a r' s' → (r ≡ r') × (s.1.1.1.0.now ≡ s'.1.1.1.0.now)
sheet_of_account_unique κs a s s' p q = (p.0 ∙ sym q.0, p.1 ∙ sym q.1)

pub route_of_train_unique : (κs : Lfts 3) (a : ArgsD route-of-train.signature κs) {r r' : ResD route-of-train.signature κs} (s s' : AtExit (ended_of 3 route-of-train-kinds.ps route-of-train-kinds.r) κs)
    → route-of-train-reads.Post κs a r s → route-of-train-reads.Post κs a r' s' → (r ≡ r') × (s.1.1.0.now ≡ s'.1.1.0.now)
route_of_train_unique κs a s s' p q = (p.0 ∙ sym q.0, p.1 ∙ sym q.1)

pub route_of_account_unique : (κs : Lfts 4) (a : ArgsD route-of-account.signature κs) {r r' : ResD route-of-account.signature κs} (s s' : AtExit (ended_of 4 route-of-account-kinds.ps route-of-account-kinds.r) κs)
    → route-of-account-reads.Post κs a r s → route-of-account-reads.Post κs a r' s' → (r ≡ r') × (s.1.1.1.0.now ≡ s'.1.1.1.0.now)
route_of_account_unique κs a s s' p q = (p.0 ∙ sym q.0, p.1 ∙ sym q.1)

pub holds_the_speed_unique : (κs : Lfts 2) (a : ArgsD HoldsTheSpeed.signature κs) {r r' : ResD HoldsTheSpeed.signature κs} (s s' : AtExit (ended_of 2 holds-the-speed-kinds.ps holds-the-speed-kinds.r) κs)
    → holds-the-speed-reads.Post κs a r s → holds-the-speed-reads.Post κs a r' s' → (r ≡ r') × (s.1.1.0.now ≡ s'.1.1.0.now)
holds_the_speed_unique κs a s s' p q = (p.0 ∙ sym q.0, p.1 ∙ sym q.1)
