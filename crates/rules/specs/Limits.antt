-- Document 01's marks one by one, its figures each at its limit and one above, and the rules that a category is not asked, on facts that break no other rule.
use Rattle.std.specs.Prelude.{ℕ, cond, List, [], ◌∷◌, replicate}
use Rattle.facts.specs.Named.{hauled_mass, hauled_length, hauled_v_length, train_length, axles, engines, vmass, vaxles, longest, hauled_m, working_not_m, first_five_v, after_fifth_m, first_isolated, last_isolated, behind, set_r, not_joined, matrossow, facts}
use Rattle.facts.specs.declared.Facts.{Facts}
use Rattle.order.specs.declared.Book.TheVariants.{CrossBorder}
use Rattle.order.specs.declared.Order.{Order}
use Rattle.categories.specs.Categories.{cross_rows, category_of}
use Rattle.rules.specs.Books.{broken_by}
use Rattle.rules.specs.CrossBorder.{cross_border}

-- these limits of the line from ME120 on, LRA and admissible mass
abbrev pub line : List ℕ → ℕ → ℕ → Order
line limits coupling admissible = record { book = CrossBorder; limits = 0 ∷ limits; asked = 1; german = 0; coupling = coupling; admissible = admissible }

-- one figure alone, one mark alone, a hauled mass with a mark
abbrev pub having : ℕ → ℕ → Facts
having name n = facts ((name, n) ∷ []) []

abbrev marked : ℕ → Facts
marked name = facts [] (name ∷ [])

abbrev heavy : ℕ → ℕ → Facts
heavy mass name = facts ((hauled_mass, mass) ∷ []) (name ∷ [])

-- byte 14 of an asked number
abbrev byte14 : ℕ → ℕ → ℕ
byte14 asked mass = cond (cross_border.mark asked (having hauled_mass mass)) 1 0

-- what the category of a number breaks on a line with all columns, LRA and admissible mass as given
abbrev broken : ℕ → ℕ → ℕ → Facts → ℕ
broken n coupling admissible f = broken_by cross_border (category_of n cross_rows) f (line (replicate 5 100) coupling admissible)

abbrev by : ℕ → Facts → ℕ
by n f = broken n 100000 100000 f

-- where only these columns are there
abbrev missing : ℕ → List ℕ → ℕ
missing n limits = broken_by cross_border (category_of n cross_rows) (facts [] []) (line limits 100000 100000)

abbrev pub at_limits : List ℕ
at_limits =
    -- 15 to 20, each alone
    by 1 (marked behind)
    ∷ by 2 (marked set_r)
    ∷ by 3 (marked not_joined)
    ∷ by 4 (marked matrossow)
    ∷ by 5 (marked first_isolated)
    ∷ by 1 (marked last_isolated)
    -- 21, 22, 23
    ∷ by 1 (having train_length 7400)
    ∷ by 1 (having train_length 7401)
    ∷ by 5 (having hauled_length 7000)
    ∷ by 5 (having hauled_length 7001)
    ∷ by 1 (having axles 250)
    ∷ by 1 (having axles 251)
    -- 30: category 3's column missing and MA90 there, and neither that nor any to its right
    ∷ missing 3 (0 ∷ 0 ∷ 0 ∷ 90 ∷ 0 ∷ [])
    ∷ missing 3 (120 ∷ 100 ∷ 0 ∷ 0 ∷ 0 ∷ [])
    -- 31 of 1 to 3, and of 4 and 5
    ∷ by 1 (having engines 3)
    ∷ by 1 (having engines 4)
    ∷ by 4 (having engines 6)
    ∷ by 4 (having engines 7)
    -- 32, 33, 34
    ∷ by 4 (having vmass 2000)
    ∷ by 4 (having vmass 2001)
    ∷ by 5 (having longest 10)
    ∷ by 5 (having longest 11)
    ∷ by 4 (having vaxles 12)
    ∷ by 4 (having vaxles 13)
    -- 35 by LRA, and by admissible mass
    ∷ broken 5 9000 9500 (having hauled_mass 9000)
    ∷ broken 5 9000 9500 (having hauled_mass 9001)
    ∷ broken 5 9500 9000 (having hauled_mass 9000)
    ∷ broken 5 9500 9000 (having hauled_mass 9001)
    -- 40
    ∷ by 1 (having hauled_mass 16000)
    ∷ by 1 (having hauled_mass 16001)
    -- 41, which is broken up to its limit
    ∷ by 2 (heavy 12001 hauled_m)
    ∷ by 2 (heavy 12000 hauled_m)
    -- 42, 43, 44
    ∷ by 1 (heavy 8000 working_not_m)
    ∷ by 1 (heavy 8001 working_not_m)
    ∷ by 3 (heavy 12000 first_five_v)
    ∷ by 3 (heavy 12001 first_five_v)
    ∷ by 2 (heavy 12000 after_fifth_m)
    ∷ by 2 (heavy 12001 after_fifth_m)
    -- 32 to 35 are not asked of 1 to 3
    ∷ by 1 (having vmass 2001)
    ∷ by 2 (having longest 11)
    ∷ by 3 (having vaxles 13)
    ∷ broken 1 9000 9500 (having hauled_mass 9001)
    -- 40 to 44 are not asked of 4 and 5
    ∷ by 4 (having hauled_mass 16001)
    ∷ by 5 (heavy 12000 hauled_m)
    ∷ by 4 (heavy 8001 working_not_m)
    ∷ by 5 (heavy 12001 first_five_v)
    ∷ by 4 (heavy 12001 after_fifth_m)
    -- more than 700 m said to be set to V break no rule (46 is withdrawn)
    ∷ by 1 (having hauled_v_length 7001)
    ∷ by 2 (having hauled_v_length 7001)
    ∷ by 3 (having hauled_v_length 7001)
    -- byte 14
    ∷ byte14 3 12000
    ∷ byte14 3 12001
    ∷ byte14 4 12001
    ∷ byte14 0 12001
    ∷ []

abbrev pub expected : List ℕ
expected =
    15 ∷ 16 ∷ 17 ∷ 18 ∷ 19 ∷ 20
    ∷ 0 ∷ 21 ∷ 0 ∷ 22 ∷ 0 ∷ 23
    ∷ 0 ∷ 30
    ∷ 0 ∷ 31 ∷ 0 ∷ 31
    ∷ 0 ∷ 32 ∷ 0 ∷ 33 ∷ 0 ∷ 34
    ∷ 0 ∷ 35 ∷ 0 ∷ 35
    ∷ 0 ∷ 40 ∷ 0 ∷ 41 ∷ 0 ∷ 42 ∷ 0 ∷ 43 ∷ 0 ∷ 44
    ∷ 0 ∷ 0 ∷ 0 ∷ 0
    ∷ 0 ∷ 0 ∷ 0 ∷ 0 ∷ 0
    ∷ 0 ∷ 0 ∷ 0
    ∷ 0 ∷ 1 ∷ 0 ∷ 0
    ∷ []
