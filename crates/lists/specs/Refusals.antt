-- What a list of refusals, each with its test, answers.
use Rattle.std.specs.Prelude.{cond, List, [], ◌∷◌, Result, Ok, Err, ⊤}
use Rattle.lists.specs.Words.{Case}

-- the first refusal that applies, and Ok where none does
abbrev pub answered : {E : Type 0} → List (Case E) → Result ⊤ E
answered [] = Ok tt
answered (c ∷ cs) = cond c.applies (Err c.gives) (answered cs)
