-- No second input fits the contract of `after`: over the contract's own reading. What `read_whole` answers comes from outside. Assumes nothing.
use mathlib.Core.Path.{◌≡◌, sym, ◌∙◌}
use contract.Lifetimes.{Lfts}
use borrow.Fn.World.{ArgsD, ResD}
use borrow.Fn.Kinds.{ended_of}
use denote.Triple.Clauses.{AtExit}
use Rattle.input.specs.contracts.after as after
use Rattle.input.proofs.after.Kinds as after-kinds
use Rattle.input.proofs.after.Reads as after-reads

pub after_unique : (κs : Lfts 0) (a : ArgsD after.signature κs) {r r' : ResD after.signature κs} (s s' : AtExit (ended_of 0 after-kinds.ps after-kinds.r) κs)
    → after-reads.Post κs a r s → after-reads.Post κs a r' s' → r ≡ r'
after_unique κs a s s' p q = p ∙ sym q
