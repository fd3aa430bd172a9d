-- No second result fits a public contract: over the contract's own reading. Assumes nothing.
use mathlib.Core.Path.{◌≡◌, sym, ◌∙◌}
use contract.Lifetimes.{Lfts}
use borrow.Fn.World.{ArgsD, ResD}
use borrow.Fn.Kinds.{ended_of}
use denote.Param.Laws.{Laws}
use denote.RattleType.{RattleType}
use mir.Syntax.{Dict}
use denote.Triple.Clauses.{AtExit}
use Rattle.answer.specs.contracts.number_of as NumberOf
use Rattle.answer.proofs.number_of.Kinds as number-of-kinds
use Rattle.answer.proofs.number_of.Reads as number-of-reads
use Rattle.answer.specs.contracts.place_of as place_of
use Rattle.answer.proofs.place_of.Kinds as place-of-kinds
use Rattle.answer.proofs.place_of.Reads as place-of-reads

pub number_of_unique : (T : RattleType) (L : Laws T) (g : Dict) (κs : Lfts 1) (a : ArgsD (NumberOf.signature T) κs) {r r' : ResD (NumberOf.signature T) κs} (s s' : AtExit (ended_of 1 (number-of-kinds.ps T L) (number-of-kinds.r T L)) κs)
    → number-of-reads.Post T L g κs a r s → number-of-reads.Post T L g κs a r' s' → r ≡ r'
number_of_unique T L g κs a s s' p q = p ∙ sym q

pub place_of_unique : (T : RattleType) (L : Laws T) (g : Dict) (κs : Lfts 1) (a : ArgsD (place_of.signature T) κs) {r r' : ResD (place_of.signature T) κs} (s s' : AtExit (ended_of 1 (place-of-kinds.ps T L) (place-of-kinds.r T L)) κs)
    → place-of-reads.Post T L g κs a r s → place-of-reads.Post T L g κs a r' s' → r ≡ r'
place_of_unique T L g κs a s s' p q = p ∙ sym q
