-- No second result fits a public contract: over the contract's own reading. Assumes nothing.
use mathlib.Core.Path.{◌≡◌, sym, ◌∙◌}
use contract.Lifetimes.{Lfts}
use borrow.Fn.World.{ArgsD, ResD}
use borrow.Fn.Kinds.{ended_of}
use denote.Triple.Clauses.{AtExit}
use Rattle.margin.specs.contracts.margin as margin
use Rattle.margin.proofs.margin.Kinds as margin-kinds
use Rattle.margin.proofs.margin.Reads as margin-reads
use Rattle.margin.specs.contracts.left as left
use Rattle.margin.proofs.left.Kinds as left-kinds
use Rattle.margin.proofs.left.Reads as left-reads
use Rattle.margin.specs.contracts.whole_tonnes as whole-tonnes
use Rattle.margin.proofs.whole_tonnes.Kinds as whole-tonnes-kinds
use Rattle.margin.proofs.whole_tonnes.Reads as whole-tonnes-reads
use Rattle.margin.specs.contracts.three_bytes as three-bytes
use Rattle.margin.proofs.three_bytes.Kinds as three-bytes-kinds
use Rattle.margin.proofs.three_bytes.Reads as three-bytes-reads

pub margin_unique : (κs : Lfts 0) (a : ArgsD margin.signature κs) {r r' : ResD margin.signature κs} (s s' : AtExit (ended_of 0 margin-kinds.ps margin-kinds.r) κs)
    → margin-reads.Post κs a r s → margin-reads.Post κs a r' s' → r ≡ r'
margin_unique κs a s s' p q = p ∙ sym q

pub left_unique : (κs : Lfts 0) (a : ArgsD left.signature κs) {r r' : ResD left.signature κs} (s s' : AtExit (ended_of 0 left-kinds.ps left-kinds.r) κs)
    → left-reads.Post κs a r s → left-reads.Post κs a r' s' → r ≡ r'
left_unique κs a s s' p q = p ∙ sym q

pub whole_tonnes_unique : (κs : Lfts 0) (a : ArgsD whole-tonnes.signature κs) {r r' : ResD whole-tonnes.signature κs} (s s' : AtExit (ended_of 0 whole-tonnes-kinds.ps whole-tonnes-kinds.r) κs)
    → whole-tonnes-reads.Post κs a r s → whole-tonnes-reads.Post κs a r' s' → r ≡ r'
whole_tonnes_unique κs a s s' p q = p ∙ sym q

pub three_bytes_unique : (κs : Lfts 0) (a : ArgsD three-bytes.signature κs) {r r' : ResD three-bytes.signature κs} (s s' : AtExit (ended_of 0 three-bytes-kinds.ps three-bytes-kinds.r) κs)
    → three-bytes-reads.Post κs a r s → three-bytes-reads.Post κs a r' s' → r ≡ r'
three_bytes_unique κs a s s' p q = p ∙ sym q
