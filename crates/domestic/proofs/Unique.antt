-- No second result fits a public contract: over the contract's own reading. Assumes nothing.
use mathlib.Core.Path.{◌≡◌, sym, ◌∙◌}
use contract.Lifetimes.{Lfts}
use borrow.Fn.World.{ArgsD, ResD}
use borrow.Fn.Kinds.{ended_of}
use denote.Triple.Clauses.{AtExit}
use Rattle.domestic.specs.contracts.grant.decide_domestic as decide
use Rattle.domestic.proofs.grant.decide_domestic.Kinds as decide-kinds
use Rattle.domestic.proofs.grant.decide_domestic.Reads as decide-reads

pub decide_domestic_unique : (κs : Lfts 0) (a : ArgsD decide.signature κs) {r r' : ResD decide.signature κs} (s s' : AtExit (ended_of 0 decide-kinds.ps decide-kinds.r) κs)
    → decide-reads.Post κs a r s → decide-reads.Post κs a r' s' → r ≡ r'
decide_domestic_unique κs a s s' p q = p ∙ sym q
