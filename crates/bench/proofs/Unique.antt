-- No second result and no second content of the line fits a public contract: over the contract's own reading. Assumes nothing.
use mathlib.Core.Path.{◌≡◌, sym, ◌∙◌}
use contract.Lifetimes.{Lfts}
use borrow.Fn.World.{ArgsD, ResD}
use borrow.Fn.Kinds.{ended_of}
use denote.Triple.Clauses.{AtExit}
use Rattle.bench.specs.contracts.line_of as Line-of
use Rattle.bench.proofs.line_of.Kinds as line-of-kinds
use Rattle.bench.proofs.line_of.Reads as line-of-reads
use Rattle.bench.specs.contracts.route_line_of as route-line-of
use Rattle.bench.proofs.route_line_of.Kinds as route-line-of-kinds
use Rattle.bench.proofs.route_line_of.Reads as route-line-of-reads

pub line_of_unique : (κs : Lfts 2) (a : ArgsD Line-of.signature κs) {r r' : ResD Line-of.signature κs} (s s' : AtExit (ended_of 2 line-of-kinds.ps line-of-kinds.r) κs)
    → line-of-reads.Post κs a r s → line-of-reads.Post κs a r' s' → (r ≡ r') × (s.1.0.now ≡ s'.1.0.now)
line_of_unique κs a s s' p q = (p.0 ∙ sym q.0, p.1 ∙ sym q.1)

pub route_line_of_unique : (κs : Lfts 2) (a : ArgsD route-line-of.signature κs) {r r' : ResD route-line-of.signature κs} (s s' : AtExit (ended_of 2 route-line-of-kinds.ps route-line-of-kinds.r) κs)
    → route-line-of-reads.Post κs a r s → route-line-of-reads.Post κs a r' s' → (r ≡ r') × (s.1.0.now ≡ s'.1.0.now)
route_line_of_unique κs a s s' p q = (p.0 ∙ sym q.0, p.1 ∙ sym q.1)
