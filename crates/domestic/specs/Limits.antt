-- The domestic rules' marks one by one, their figures each at its bound and one beyond, and the rules that a category is not asked, on facts that break no other rule.
use Rattle.std.specs.Prelude.{ℕ, cond, List, [], ◌∷◌}
use Rattle.facts.specs.Named.{hauled_mass, train_length, engines, vmass, longest, dloads, hauled_below, working_below, hauled_m, working_not_m, after_fifth_m, first_isolated, last_isolated, behind, not_joined, hauled_engine_not_m, long, few_wagons, facts}
use Rattle.facts.specs.declared.Facts.{Facts}
use Rattle.order.specs.declared.Book.TheVariants.{Domestic}
use Rattle.order.specs.declared.Order.{Order}
use Rattle.categories.specs.Categories.{domestic_rows, category_of}
use Rattle.rules.specs.Books.{broken_by}
use Rattle.domestic.specs.Rules.{domestic}

-- these limits of the line from ME140 on, LRA and admissible mass
abbrev line : List ℕ → ℕ → ℕ → Order
line limits coupling admissible = record { book = Domestic; limits = limits; asked = 1; german = 0; coupling = coupling; admissible = admissible }

abbrev broken : ℕ → Order → Facts → ℕ
broken n o f = broken_by domestic (category_of n domestic_rows) f o

-- what the category of a number breaks on a line with all columns, under no load limit
abbrev by : ℕ → Facts → ℕ
by n f = broken n (line (140 ∷ 120 ∷ 100 ∷ 100 ∷ 90 ∷ 80 ∷ []) 100000 100000) f

abbrev loaded : ℕ → ℕ → ℕ → ℕ → ℕ
loaded n coupling admissible mass = broken n (line (140 ∷ 120 ∷ 100 ∷ 100 ∷ 90 ∷ 80 ∷ []) coupling admissible) (facts ((hauled_mass, mass) ∷ []) (long ∷ []))

abbrev missing : ℕ → List ℕ → ℕ
missing n limits = broken n (line limits 100000 100000) (facts [] [])

-- one figure or one mark alone, a hauled mass with a mark, a mark in a long train
abbrev having : ℕ → ℕ → Facts
having name n = facts ((name, n) ∷ []) []

abbrev marked : ℕ → Facts
marked name = facts [] (name ∷ [])

abbrev heavy : ℕ → ℕ → Facts
heavy mass name = facts ((hauled_mass, mass) ∷ []) (name ∷ [])

abbrev in_long : ℕ → Facts
in_long name = facts [] (name ∷ long ∷ [])

-- byte 15 of an asked number
abbrev byte15 : ℕ → Facts → ℕ
byte15 asked f = cond (domestic.mark asked f) 1 0

abbrev pub at_limits : List ℕ
at_limits =
    -- 60 and 63, of ME and of MA
    loaded 1 9000 9500 9000
    ∷ loaded 1 9000 9500 9001
    ∷ loaded 6 9000 9500 9001
    ∷ loaded 2 9500 9000 9000
    ∷ loaded 2 9500 9000 9001
    ∷ loaded 5 9500 9000 9001
    -- 61: ME140's column missing and MA80 there; MA100's and none to its right
    ∷ missing 1 (0 ∷ 0 ∷ 0 ∷ 0 ∷ 0 ∷ 80 ∷ [])
    ∷ missing 4 (140 ∷ 120 ∷ 100 ∷ 0 ∷ 0 ∷ 0 ∷ [])
    -- 62 of ME140, ME120, ME100 and MA
    ∷ by 1 (heavy 12000 working_not_m)
    ∷ by 1 (heavy 12001 working_not_m)
    ∷ by 2 (heavy 8000 working_not_m)
    ∷ by 2 (heavy 8001 working_not_m)
    ∷ by 3 (heavy 8001 working_not_m)
    ∷ by 4 (heavy 0 working_not_m)
    -- 64 of ME140 alone
    ∷ by 1 (having dloads 1)
    ∷ by 2 (having dloads 1)
    ∷ by 4 (having dloads 1)
    -- 65
    ∷ by 1 (marked not_joined)
    ∷ by 6 (marked not_joined)
    -- 66 and 78: a hauled record at the category's speed, and 1 km/h below it
    ∷ by 1 (having hauled_below 60)
    ∷ by 1 (having hauled_below 61)
    ∷ by 2 (having hauled_below 80)
    ∷ by 2 (having hauled_below 81)
    ∷ by 3 (having hauled_below 100)
    ∷ by 3 (having hauled_below 101)
    ∷ by 4 (having hauled_below 100)
    ∷ by 4 (having hauled_below 101)
    ∷ by 5 (having hauled_below 110)
    ∷ by 5 (having hauled_below 111)
    ∷ by 6 (having hauled_below 120)
    ∷ by 6 (having hauled_below 121)
    -- 67 of ME140 and ME120
    ∷ by 1 (marked few_wagons)
    ∷ by 2 (marked few_wagons)
    ∷ by 3 (marked few_wagons)
    ∷ by 4 (marked few_wagons)
    -- 68 and 79
    ∷ by 1 (having train_length 7500)
    ∷ by 3 (having train_length 7501)
    ∷ by 4 (having train_length 7500)
    ∷ by 6 (having train_length 7501)
    -- 69: not long, and long; not asked of MA
    ∷ by 1 (having hauled_mass 12000)
    ∷ by 1 (having hauled_mass 12001)
    ∷ by 3 (heavy 16000 long)
    ∷ by 3 (heavy 16001 long)
    ∷ by 4 (having hauled_mass 16001)
    -- 70 and 81
    ∷ by 2 (marked behind)
    ∷ by 5 (marked behind)
    -- 71 only in a long train, 80 in any
    ∷ by 1 (in_long hauled_engine_not_m)
    ∷ by 1 (marked hauled_engine_not_m)
    ∷ by 4 (marked hauled_engine_not_m)
    -- 72 and 82
    ∷ by 3 (having engines 3)
    ∷ by 3 (having engines 4)
    ∷ by 6 (having engines 6)
    ∷ by 6 (having engines 7)
    -- 73 and 83: a working engine
    ∷ by 1 (having working_below 60)
    ∷ by 1 (having working_below 61)
    ∷ by 2 (having working_below 81)
    ∷ by 3 (having working_below 101)
    ∷ by 4 (having working_below 101)
    ∷ by 5 (having working_below 111)
    ∷ by 6 (having working_below 120)
    ∷ by 6 (having working_below 121)
    -- 74: M in a long train and not; after the fifth in either; not asked of MA
    ∷ by 1 (in_long hauled_m)
    ∷ by 1 (marked hauled_m)
    ∷ by 3 (in_long after_fifth_m)
    ∷ by 4 (marked hauled_m)
    -- 75, 76, 85, 86
    ∷ by 1 (marked first_isolated)
    ∷ by 2 (marked last_isolated)
    ∷ by 4 (marked first_isolated)
    ∷ by 5 (marked last_isolated)
    -- 84 and 87, not asked of ME
    ∷ by 4 (having vmass 2000)
    ∷ by 4 (having vmass 2001)
    ∷ by 1 (having vmass 2001)
    ∷ by 5 (having longest 10)
    ∷ by 5 (having longest 11)
    ∷ by 2 (having longest 11)
    -- byte 15
    ∷ byte15 3 (marked long)
    ∷ byte15 4 (marked long)
    ∷ byte15 1 (having hauled_mass 12001)
    ∷ byte15 0 (marked long)
    ∷ []

abbrev pub expected : List ℕ
expected =
    0 ∷ 60 ∷ 60 ∷ 0 ∷ 63 ∷ 63
    ∷ 0 ∷ 61
    ∷ 0 ∷ 62 ∷ 0 ∷ 62 ∷ 62 ∷ 62
    ∷ 64 ∷ 0 ∷ 0
    ∷ 65 ∷ 65
    ∷ 0 ∷ 66 ∷ 0 ∷ 66 ∷ 0 ∷ 66
    ∷ 0 ∷ 78 ∷ 0 ∷ 78 ∷ 0 ∷ 78
    ∷ 67 ∷ 67 ∷ 0 ∷ 0
    ∷ 0 ∷ 68 ∷ 0 ∷ 79
    ∷ 0 ∷ 69 ∷ 0 ∷ 69 ∷ 0
    ∷ 70 ∷ 81
    ∷ 71 ∷ 0 ∷ 80
    ∷ 0 ∷ 72 ∷ 0 ∷ 82
    ∷ 0 ∷ 73 ∷ 73 ∷ 73 ∷ 83 ∷ 83 ∷ 0 ∷ 83
    ∷ 0 ∷ 74 ∷ 74 ∷ 0
    ∷ 75 ∷ 76 ∷ 85 ∷ 86
    ∷ 0 ∷ 84 ∷ 0 ∷ 0 ∷ 87 ∷ 0
    ∷ 1 ∷ 0 ∷ 0 ∷ 0
    ∷ []
