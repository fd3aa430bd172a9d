-- No second result fits the public contract: over the contract's own reading. Of the returned slice the bytes are determined. Assumes nothing.
use mathlib.Core.Path.{◌≡◌, sym, ◌∙◌}
use contract.Lifetimes.{Lfts}
use borrow.Fn.World.{ArgsD, ResD}
use borrow.Fn.Kinds.{ended_of}
use denote.Triple.Clauses.{AtExit}
use Rattle.speed.specs.contracts.holds_the_speed as HoldsTheSpeed
use Rattle.speed.proofs.holds_the_speed.Kinds as holds-the-speed-kinds
use Rattle.speed.proofs.holds_the_speed.Reads as holds-the-speed-reads

pub holds_the_speed_unique : (κs : Lfts 1) (a : ArgsD HoldsTheSpeed.signature κs) (r r' : ResD HoldsTheSpeed.signature κs) (s s' : AtExit (ended_of 1 holds-the-speed-kinds.ps holds-the-speed-kinds.r) κs)
    → holds-the-speed-reads.Post κs a r s → holds-the-speed-reads.Post κs a r' s' → r.now ≡ r'.now
holds_the_speed_unique κs a r r' s s' p q = p ∙ sym q
