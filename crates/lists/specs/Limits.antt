-- Numbers as bytes and what they make, and figures of a short list, as literals: the definitions held to the page.
use Rattle.std.specs.Prelude.{ℕ, Bool, true, false, List, [], ◌∷◌}
use Rattle.lists.specs.Words.{◌is◌, ◌above◌, ◌at_most◌, leading}
use Rattle.lists.specs.Figures.{sum, count, some, first_is, last_is, trailing, longest, behind, least, firsts}
use Rattle.lists.specs.Numbers.{little_endian, four_bytes, two_bytes}

-- little-endian: 1 + 256 x 2 + 65,536 x 3 + 16,777,216 x 4
abbrev pub numbers : List ℕ
numbers = little_endian [] ∷ little_endian (1 ∷ 2 ∷ []) ∷ little_endian (1 ∷ 2 ∷ 3 ∷ 4 ∷ []) ∷ two_bytes 513 (four_bytes 67305985 [])

abbrev pub numbers_read : List ℕ
numbers_read = 0 ∷ 513 ∷ 67305985 ∷ 1 ∷ 2 ∷ 1 ∷ 2 ∷ 3 ∷ 4 ∷ []

-- isolated is 0 here, as a setting is
abbrev isolated : ℕ → Bool
isolated x = x is 0

abbrev settings : List ℕ
settings = 0 ∷ 0 ∷ 1 ∷ 0 ∷ 0 ∷ 0 ∷ 2 ∷ 3 ∷ 0 ∷ []

abbrev pub figures : List ℕ
figures =
    sum (λ x. x) settings
    ∷ count isolated settings
    -- runs: from the first, from the last, the longest between them
    ∷ leading isolated settings
    ∷ trailing isolated settings
    ∷ longest isolated settings
    -- the least, and the top where none is less
    ∷ least 200 (λ x. x) (140 ∷ 90 ∷ 120 ∷ [])
    ∷ least 200 (λ x. x) []
    -- five of six, and five of two
    ∷ firsts 5 4 (λ x. x) (0 ∷ 1 ∷ 2 ∷ 3 ∷ 2 ∷ 1 ∷ [])

abbrev pub figures_given : List ℕ
figures_given = 6 ∷ 6 ∷ 2 ∷ 1 ∷ 3 ∷ 90 ∷ 200 ∷ 0 ∷ 1 ∷ 2 ∷ 3 ∷ 2 ∷ []

abbrev pub few : List ℕ
few = firsts 5 4 (λ x. x) (3 ∷ 1 ∷ [])

abbrev pub few_given : List ℕ
few_given = 3 ∷ 1 ∷ 4 ∷ 4 ∷ 4 ∷ []

-- a wagon is 0 and an engine 1, as a kind is
abbrev stands : List ℕ → Bool
stands kinds = behind (λ k. k is 0) (λ k. k is 1) kinds

abbrev pub tests : List Bool
tests =
    -- an engine behind a wagon; before it; alone
    stands (0 ∷ 0 ∷ 1 ∷ [])
    ∷ stands (1 ∷ 1 ∷ 0 ∷ [])
    ∷ stands (1 ∷ [])
    ∷ some isolated (1 ∷ 0 ∷ [])
    ∷ some isolated []
    ∷ first_is isolated (0 ∷ 1 ∷ [])
    ∷ last_is isolated (0 ∷ 1 ∷ [])
    -- a limit is kept at itself
    ∷ (5 above 5)
    ∷ (6 above 5)
    ∷ (5 at_most 5)
    ∷ (6 at_most 5)
    ∷ []

abbrev pub tests_given : List Bool
tests_given = true ∷ false ∷ false ∷ true ∷ false ∷ true ∷ false ∷ false ∷ true ∷ true ∷ false ∷ []
