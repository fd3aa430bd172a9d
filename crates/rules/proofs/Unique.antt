-- No second result fits a public contract: over the contract's own reading. Assumes nothing.
use mathlib.Core.Path.{◌≡◌, sym, ◌∙◌}
use contract.Lifetimes.{Lfts}
use borrow.Fn.World.{ArgsD, ResD}
use borrow.Fn.Kinds.{ended_of}
use denote.Triple.Clauses.{AtExit}
use Rattle.rules.specs.contracts.grant.choose as choose
use Rattle.rules.proofs.grant.choose.Kinds as choose-kinds
use Rattle.rules.proofs.grant.choose.Reads as choose-reads
use Rattle.rules.specs.contracts.grant.decided as decided
use Rattle.rules.proofs.grant.decided.Kinds as decided-kinds
use Rattle.rules.proofs.grant.decided.Reads as decided-reads
use Rattle.rules.specs.contracts.grant.decide_cross_border as decide
use Rattle.rules.proofs.grant.decide_cross_border.Kinds as decide-kinds
use Rattle.rules.proofs.grant.decide_cross_border.Reads as decide-reads

pub choose_unique : (κs : Lfts 1) (a : ArgsD choose.signature κs) {r r' : ResD choose.signature κs} (s s' : AtExit (ended_of 1 choose-kinds.ps choose-kinds.r) κs)
    → choose-reads.Post κs a r s → choose-reads.Post κs a r' s' → r ≡ r'
choose_unique κs a s s' p q = p ∙ sym q

pub decide_cross_border_unique : (κs : Lfts 0) (a : ArgsD decide.signature κs) {r r' : ResD decide.signature κs} (s s' : AtExit (ended_of 0 decide-kinds.ps decide-kinds.r) κs)
    → decide-reads.Post κs a r s → decide-reads.Post κs a r' s' → r ≡ r'
decide_cross_border_unique κs a s s' p q = p ∙ sym q

pub decided_unique : (κs : Lfts 0) (a : ArgsD decided.signature κs) {r r' : ResD decided.signature κs} (s s' : AtExit (ended_of 0 decided-kinds.ps decided-kinds.r) κs)
    → decided-reads.Post κs a r s → decided-reads.Post κs a r' s' → r ≡ r'
decided_unique κs a s s' p q = p ∙ sym q
