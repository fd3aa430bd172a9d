-- No second result fits a public contract: over the contract's own reading. Assumes nothing.
use mathlib.Core.Path.{◌≡◌, sym, ◌∙◌}
use contract.Lifetimes.{Lfts}
use borrow.Fn.World.{ArgsD, ResD}
use borrow.Fn.Kinds.{ended_of}
use denote.Triple.Clauses.{AtExit}
use Rattle.sheets.specs.contracts.length_of as length-of
use Rattle.sheets.proofs.length_of.Kinds as length-of-kinds
use Rattle.sheets.proofs.length_of.Reads as length-of-reads
use Rattle.sheets.specs.contracts.sheet_of as sheet-of
use Rattle.sheets.proofs.sheet_of.Kinds as sheet-of-kinds
use Rattle.sheets.proofs.sheet_of.Reads as sheet-of-reads

pub sheet_of_unique : (κs : Lfts 0) (a : ArgsD sheet-of.signature κs) {r r' : ResD sheet-of.signature κs} (s s' : AtExit (ended_of 0 sheet-of-kinds.ps sheet-of-kinds.r) κs)
    → sheet-of-reads.Post κs a r s → sheet-of-reads.Post κs a r' s' → r ≡ r'
sheet_of_unique κs a s s' p q = p ∙ sym q

pub length_of_unique : (κs : Lfts 0) (a : ArgsD length-of.signature κs) {r r' : ResD length-of.signature κs} (s s' : AtExit (ended_of 0 length-of-kinds.ps length-of-kinds.r) κs)
    → length-of-reads.Post κs a r s → length-of-reads.Post κs a r' s' → r ≡ r'
length_of_unique κs a s s' p q = p ∙ sym q
