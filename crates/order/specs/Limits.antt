-- Document 01's order record, and request Six's, at the ends of their ranges and beside them, and an order of each book as bytes with what it says: the definitions held to the page.
use Rattle.std.specs.Prelude.{ℕ, Bool, true, false, List, [], ◌∷◌, ◌++◌, map, take}
use Rattle.record.specs.Limits.{with_number}
use Rattle.order.specs.Orders.{good_order}
use Rattle.order.specs.declared.Book.TheVariants.{CrossBorder, Domestic}
use Rattle.order.specs.declared.Order.{Order}

-- a cross-border and a domestic order with all else at the low end
abbrev lowest : List ℕ
lowest = 0 ∷ 0 ∷ 0 ∷ 0 ∷ 0 ∷ 1 ∷ 0 ∷ 0 ∷ 1 ∷ 0 ∷ 0 ∷ 0 ∷ 1 ∷ 0 ∷ 0 ∷ 0 ∷ 0 ∷ 0 ∷ 0 ∷ 0 ∷ 0 ∷ 0 ∷ 0 ∷ 0 ∷ []

abbrev lowest_domestic : List ℕ
lowest_domestic = 0 ∷ 0 ∷ 0 ∷ 0 ∷ 0 ∷ 1 ∷ 0 ∷ 1 ∷ 1 ∷ 0 ∷ 0 ∷ 0 ∷ 1 ∷ 0 ∷ 0 ∷ 0 ∷ 0 ∷ 0 ∷ 0 ∷ 0 ∷ 0 ∷ 0 ∷ 0 ∷ 0 ∷ []

-- whether an order stays good with each of these numbers in so many bytes from s on, and with 1 in each of these bytes
abbrev ranged : List ℕ → ℕ → ℕ → List ℕ → List Bool
ranged order s w xs = map (λ x. good_order (with_number order s w x)) xs

abbrev with_one_in : List ℕ → List ℕ → List Bool
with_one_in order places = map (λ s. good_order (with_number order s 1 1)) places

-- 23, 24 and 25 bytes
abbrev lengths : List ℕ → List Bool
lengths order = map good_order (take 23 order ∷ order ∷ (order ++ 0 ∷ []) ∷ [])

-- what both books share: 0-4 the line's limits, 8-11 coupling limit (LRA), 12-15 admissible mass
abbrev shared : List ℕ → List Bool
shared order =
    ranged order 0 1 (0 ∷ 200 ∷ 201 ∷ [])
    ++ ranged order 1 1 (0 ∷ 200 ∷ 201 ∷ [])
    ++ ranged order 2 1 (0 ∷ 200 ∷ 201 ∷ [])
    ++ ranged order 3 1 (0 ∷ 200 ∷ 201 ∷ [])
    ++ ranged order 4 1 (0 ∷ 200 ∷ 201 ∷ [])
    ++ ranged order 8 4 (0 ∷ 1 ∷ 100000 ∷ 100001 ∷ [])
    ++ ranged order 12 4 (0 ∷ 1 ∷ 100000 ∷ 100001 ∷ [])
    ++ lengths order

abbrev pub shared_cross_border : List Bool
shared_cross_border = shared lowest

abbrev pub shared_domestic : List Bool
shared_domestic = shared lowest_domestic

abbrev pub expected_shared : List Bool
expected_shared =
    true ∷ true ∷ false
    ∷ true ∷ true ∷ false
    ∷ true ∷ true ∷ false
    ∷ true ∷ true ∷ false
    ∷ true ∷ true ∷ false
    ∷ false ∷ true ∷ true ∷ false
    ∷ false ∷ true ∷ true ∷ false
    ∷ false ∷ true ∷ false
    ∷ []

-- 5 category asked, 6 percentage in the German timetable, 7 book, 16-23 are 0
abbrev pub of_cross_border : List Bool
of_cross_border =
    ranged lowest 5 1 (0 ∷ 1 ∷ 5 ∷ 6 ∷ [])
    ++ ranged lowest 6 1 (0 ∷ 200 ∷ 201 ∷ [])
    ++ ranged lowest 7 1 (0 ∷ 1 ∷ 2 ∷ [])
    ++ with_one_in lowest (16 ∷ 17 ∷ 18 ∷ 19 ∷ 20 ∷ 21 ∷ 22 ∷ 23 ∷ [])

abbrev pub expected_cross_border : List Bool
expected_cross_border =
    false ∷ true ∷ true ∷ false
    ∷ true ∷ true ∷ false
    ∷ true ∷ true ∷ false
    ∷ false ∷ false ∷ false ∷ false ∷ false ∷ false ∷ false ∷ false
    ∷ []

-- 5 category asked, 6 is 0, 16 column ME140, 17-23 are 0 (request Six)
abbrev pub of_domestic : List Bool
of_domestic =
    ranged lowest_domestic 5 1 (0 ∷ 1 ∷ 6 ∷ 7 ∷ [])
    ++ ranged lowest_domestic 6 1 (0 ∷ 1 ∷ [])
    ++ ranged lowest_domestic 16 1 (0 ∷ 200 ∷ 201 ∷ [])
    ++ with_one_in lowest_domestic (17 ∷ 18 ∷ 19 ∷ 20 ∷ 21 ∷ 22 ∷ 23 ∷ [])

abbrev pub expected_domestic : List Bool
expected_domestic =
    false ∷ true ∷ true ∷ false
    ∷ true ∷ false
    ∷ true ∷ true ∷ false
    ∷ false ∷ false ∷ false ∷ false ∷ false ∷ false ∷ false
    ∷ []

-- ---- as written, so read
-- columns 120, 100, 95, 90, 80, category 5, 65 percent, LRA 7,000 t, admissible mass 1,600 t; with ME140 140, category 6, 10,000 t, 9,999.9 t
abbrev pub written : List (List ℕ)
written =
    (120 ∷ 100 ∷ 95 ∷ 90 ∷ 80 ∷ 5 ∷ 65 ∷ 0 ∷ 112 ∷ 17 ∷ 1 ∷ 0 ∷ 128 ∷ 62 ∷ 0 ∷ 0 ∷ 0 ∷ 0 ∷ 0 ∷ 0 ∷ 0 ∷ 0 ∷ 0 ∷ 0 ∷ [])
    ∷ (121 ∷ 101 ∷ 96 ∷ 91 ∷ 81 ∷ 6 ∷ 0 ∷ 1 ∷ 160 ∷ 134 ∷ 1 ∷ 0 ∷ 159 ∷ 134 ∷ 1 ∷ 0 ∷ 140 ∷ 0 ∷ 0 ∷ 0 ∷ 0 ∷ 0 ∷ 0 ∷ 0 ∷ [])
    ∷ []

abbrev pub says : List Order
says =
    record { book = CrossBorder; limits = 0 ∷ 120 ∷ 100 ∷ 95 ∷ 90 ∷ 80 ∷ []; asked = 5; german = 65; coupling = 70000; admissible = 16000 }
    ∷ record { book = Domestic; limits = 140 ∷ 121 ∷ 101 ∷ 96 ∷ 91 ∷ 81 ∷ []; asked = 6; german = 0; coupling = 100000; admissible = 99999 }
    ∷ []
