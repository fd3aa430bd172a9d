-- No second result fits a public contract: over the contract's own reading. Assumes nothing.
use mathlib.Core.Path.{◌≡◌, sym, ◌∙◌}
use contract.Lifetimes.{Lfts}
use borrow.Fn.World.{ArgsD, ResD}
use borrow.Fn.Kinds.{ended_of}
use denote.Triple.Clauses.{AtExit}
use Rattle.books.specs.contracts.decide as decide
use Rattle.books.proofs.decide.Kinds as decide-kinds
use Rattle.books.proofs.decide.Reads as decide-reads
use Rattle.books.specs.contracts.is_marked as is-marked
use Rattle.books.proofs.is_marked.Kinds as is-marked-kinds
use Rattle.books.proofs.is_marked.Reads as is-marked-reads

pub decide_unique : (κs : Lfts 0) (a : ArgsD decide.signature κs) {r r' : ResD decide.signature κs} (s s' : AtExit (ended_of 0 decide-kinds.ps decide-kinds.r) κs)
    → decide-reads.Post κs a r s → decide-reads.Post κs a r' s' → r ≡ r'
decide_unique κs a s s' p q = p ∙ sym q

pub is_marked_unique : (κs : Lfts 0) (a : ArgsD is-marked.signature κs) {r r' : ResD is-marked.signature κs} (s s' : AtExit (ended_of 0 is-marked-kinds.ps is-marked-kinds.r) κs)
    → is-marked-reads.Post κs a r s → is-marked-reads.Post κs a r' s' → r ≡ r'
is_marked_unique κs a s s' p q = p ∙ sym q
