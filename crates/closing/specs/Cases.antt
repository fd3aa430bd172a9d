-- Request Two's number as vehicles bear it, 21 81 2471 217-3: it closes, and its neighbours do not; leading zeros are counted.
use Rattle.std.specs.Prelude.{ℕ, Bool, true, false, List, [], ◌∷◌}

-- 125 closes with nine zeros before it and not alone, 180 the other way
abbrev pub numbers : List ℕ
numbers = 218124712172 ∷ 218124712173 ∷ 218124712174 ∷ 17 ∷ 18 ∷ 19 ∷ 999999999990 ∷ 999999999991 ∷ 999999999992 ∷ 125 ∷ 180 ∷ []

abbrev pub expected : List Bool
expected = false ∷ true ∷ false ∷ false ∷ true ∷ false ∷ false ∷ true ∷ false ∷ true ∷ false ∷ []
