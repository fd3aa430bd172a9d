-- k and what brakes: the length that k counts at its limits and one above, and what M counts; the percentages by train length at their ends and one above;
-- p on either side of byte 6; a category's speed, each of the three once the least.
use Rattle.std.specs.Prelude.{ℕ, List, [], ◌∷◌, ◌++◌, map, replicate}
use Rattle.facts.specs.Named.{hauled_length, hauled_v_length, train_length, vmass, mmass, engines_m_mass, wagons_v_mass, train_below, facts}
use Rattle.facts.specs.declared.Facts.{Facts}
use Rattle.order.specs.declared.Book.TheVariants.{CrossBorder}
use Rattle.order.specs.declared.Order.{Order}
use Rattle.categories.specs.Categories.{cross_rows, domestic_rows, stepped, percentage_of, speed_of, category_of}
use Rattle.categories.specs.Brakes.{begun_of, braked_of}

-- V masses 1,000, M masses 400, of them 300 of engines, 200 the V masses of wagons set to M, a hauled part of 700 m and this much said to be set to V
abbrev braking : ℕ → Facts
braking vLength = facts ((vmass, 1000) ∷ (mmass, 400) ∷ (engines_m_mass, 300) ∷ (wagons_v_mass, 200) ∷ (hauled_length, 7000) ∷ (hauled_v_length, vLength) ∷ []) []

-- a domestic category's percentage at these train lengths
abbrev percentages : ℕ → List ℕ → List ℕ
percentages n lengths = map (λ length. stepped (category_of n domestic_rows).percentage length) lengths

abbrev me_ends : List ℕ
me_ends = 5500 ∷ 5501 ∷ 6500 ∷ 6501 ∷ 7500 ∷ 7501 ∷ []

abbrev ma_ends : List ℕ
ma_ends = 8000 ∷ 8001 ∷ 9000 ∷ 9001 ∷ 10000 ∷ 10001 ∷ []

-- an order with these limits, from ME140 on, and this percentage in byte 6
abbrev on : List ℕ → ℕ → Order
on limits german = record { book = CrossBorder; limits = limits; asked = 1; german = german; coupling = 100000; admissible = 100000 }

-- a cross-border category's p with this in byte 6
abbrev with_german : ℕ → ℕ → ℕ
with_german n german = percentage_of (category_of n cross_rows) (facts ((train_length, 7000) ∷ []) []) (on (replicate 6 200) german)

-- a cross-border category's speed on these limits, from ME140 on, with the slowest record so much below 200 km/h
abbrev speed_with : ℕ → List ℕ → ℕ → ℕ
speed_with n limits below = speed_of (category_of n cross_rows) (facts ((train_below, below) ∷ []) []) (on limits 0)

abbrev pub at_limits : List ℕ
at_limits =
    -- the begun 20 m at 500 m and behind it
    begun_of 5000
    ∷ begun_of 5001
    ∷ begun_of 5200
    ∷ begun_of 5201
    -- braked mass: three quarters of M, and 2, 10 and no more than 10 percent deducted, in 1 to 3; the whole of both in 4 and 5
    ∷ braked_of (category_of 1 cross_rows) (braking 7000)
    ∷ braked_of (category_of 1 cross_rows) (braking 7001)
    ∷ map (λ n. braked_of (category_of n cross_rows) (braking 5201)) (1 ∷ 2 ∷ 3 ∷ 4 ∷ 5 ∷ [])
    -- in ME the whole M mass of engines and three quarters of the V mass of wagons, in MA the whole M mass; nothing deducted
    ++ map (λ n. braked_of (category_of n domestic_rows) (braking 7000)) (1 ∷ 2 ∷ 3 ∷ 4 ∷ 5 ∷ 6 ∷ [])

-- p by train length
abbrev pub by_length : List ℕ
by_length =
    percentages 1 me_ends
    ++ percentages 2 me_ends
    ++ percentages 3 me_ends
    ++ percentages 4 ma_ends
    ++ percentages 5 ma_ends
    ++ percentages 6 ma_ends

abbrev pub on_line : List ℕ
on_line =
    -- byte 6 one below the table's percentage, the same, one above; 0 is a value like any other
    map (with_german 1) (0 ∷ 76 ∷ 77 ∷ 78 ∷ [])
    ++ map (with_german 5) (0 ∷ 49 ∷ 50 ∷ 51 ∷ 200 ∷ [])
    -- the least of its own, the line's and the slowest record's: its own of each category
    ++ map (λ n. speed_with n (replicate 6 200) 0) (1 ∷ 2 ∷ 3 ∷ 4 ∷ 5 ∷ [])
    -- the line's, each category by its column; the slowest record's
    ++ map (λ n. speed_with n (1 ∷ 85 ∷ 84 ∷ 83 ∷ 82 ∷ 81 ∷ []) 0) (1 ∷ 2 ∷ 3 ∷ 4 ∷ 5 ∷ [])
    ++ map (λ n. speed_with n (replicate 6 85) 120) (1 ∷ 5 ∷ [])
    -- a missing column: the first not missing to the right, never one to the left; none
    ++ speed_with 1 (1 ∷ 0 ∷ 0 ∷ 0 ∷ 75 ∷ 74 ∷ []) 0
    ∷ speed_with 3 (1 ∷ 76 ∷ 75 ∷ 0 ∷ 0 ∷ 74 ∷ []) 0
    ∷ speed_with 5 (1 ∷ 76 ∷ 75 ∷ 74 ∷ 0 ∷ 0 ∷ []) 0
    ∷ []

abbrev pub expected : List ℕ
expected =
    0 ∷ 1 ∷ 1 ∷ 2
    ∷ 1170 ∷ 1170
    ∷ 1274 ∷ 1274 ∷ 1274 ∷ 1400 ∷ 1400
    ∷ 1450 ∷ 1450 ∷ 1450 ∷ 1400 ∷ 1400 ∷ 1400
    ∷ []

abbrev pub expected_by_length : List ℕ
expected_by_length =
    97 ∷ 102 ∷ 102 ∷ 108 ∷ 108 ∷ 108
    ∷ 77 ∷ 81 ∷ 81 ∷ 86 ∷ 86 ∷ 94
    ∷ 60 ∷ 63 ∷ 63 ∷ 66 ∷ 66 ∷ 73
    ∷ 57 ∷ 64 ∷ 64 ∷ 69 ∷ 69 ∷ 69
    ∷ 50 ∷ 57 ∷ 57 ∷ 61 ∷ 61 ∷ 61
    ∷ 47 ∷ 55 ∷ 55 ∷ 59 ∷ 59 ∷ 59
    ∷ []

abbrev pub expected_on_line : List ℕ
expected_on_line =
    77 ∷ 77 ∷ 77 ∷ 78
    ∷ 50 ∷ 50 ∷ 50 ∷ 51 ∷ 200
    ∷ 120 ∷ 100 ∷ 100 ∷ 100 ∷ 90
    ∷ 85 ∷ 84 ∷ 83 ∷ 83 ∷ 82
    ∷ 80 ∷ 80
    ∷ 75 ∷ 74 ∷ 0
    ∷ []
