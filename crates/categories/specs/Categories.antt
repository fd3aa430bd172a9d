-- Document 01, "The five categories", and request Six's six: the tables, what a row of one gives, the column's fallback to the right (000, article 1502), the percentage.
use Rattle.std.specs.Prelude.{ℕ, suc, min, max, Bool, true, false, cond, List, [], ◌∷◌, map, drop, replicate}
use Rattle.lists.specs.Words.{◌is◌, ◌at_most◌, first_of}
use Rattle.facts.specs.declared.Facts.{Facts}
use Rattle.order.specs.declared.Book.{Book}
use Rattle.order.specs.declared.Book.TheVariants.{CrossBorder, Domestic}
use Rattle.order.specs.declared.Order.{Order}
use Rattle.categories.specs.declared.category.Category.{Category}
use Rattle.categories.specs.declared.category.Steps.{Steps}
use Rattle.categories.specs.declared.category.Weigh.{Weigh}
use Rattle.categories.specs.declared.category.Weigh.TheVariants.{ThreeQuarters, Whole, Long}

-- ---- cross-border
-- the same percentage for every train length
abbrev pub same : ℕ → Steps
same p = record { up_to = replicate 3 (0, p); beyond = p }

-- number, speed, percentage, column from ME120 as 0 (behind ME140, which no cross-border order has), whether it is one of "4 and 5", what M counts
abbrev row : ℕ → ℕ → ℕ → ℕ → Bool → Weigh → Category
row n s p c g w = record { number = n; speed = s; percentage = same p; column = suc c; isg = g; weigh = w }

abbrev pub cross_rows : List Category
cross_rows =
    -- ME120/P120, column ME120
    row 1 120 77 0 false ThreeQuarters
    -- ME100/P100, column ME100
    ∷ row 2 100 60 1 false ThreeQuarters
    -- MA100/P100, column MA100
    ∷ row 3 100 60 2 false ThreeQuarters
    -- MA100/G100, column MA100
    ∷ row 4 100 57 2 true Whole
    -- MA90/G90, column MA90
    ∷ row 5 90 50 3 true Whole
    ∷ []

-- ---- domestic (request Six)
-- ME by train length: at most 550 m, at most 650 m, at most 750 m, above (000, 3402)
abbrev pub me_steps : ℕ → ℕ → ℕ → ℕ → Steps
me_steps p q r s = record { up_to = (5500, p) ∷ (6500, q) ∷ (7500, r) ∷ []; beyond = s }

-- MA: at most 800 m, at most 900 m, above; the table ends at 1,000 m and is held (000, 4402.1)
abbrev pub ma_steps : ℕ → ℕ → ℕ → Steps
ma_steps p q r = record { up_to = (8000, p) ∷ (9000, q) ∷ (10000, r) ∷ []; beyond = r }

-- number, speed, percentages, column from ME140 as 0
abbrev me_row : ℕ → ℕ → Steps → ℕ → Category
me_row n s p c = record { number = n; speed = s; percentage = p; column = c; isg = false; weigh = Long }

abbrev ma_row : ℕ → ℕ → Steps → ℕ → Category
ma_row n s p c = record { number = n; speed = s; percentage = p; column = c; isg = true; weigh = Whole }

abbrev pub domestic_rows : List Category
domestic_rows =
    -- ME140; the table has no figure above 750 m: 108 is held
    me_row 1 140 (me_steps 97 102 108 108) 0
    -- ME120
    ∷ me_row 2 120 (me_steps 77 81 86 94) 1
    -- ME100
    ∷ me_row 3 100 (me_steps 60 63 66 73) 2
    -- MA100
    ∷ ma_row 4 100 (ma_steps 57 64 69) 3
    -- MA90
    ∷ ma_row 5 90 (ma_steps 50 57 61) 4
    -- MA80
    ∷ ma_row 6 80 (ma_steps 47 55 59) 5
    ∷ []

-- the table of a book
abbrev pub rows_of : Book → List Category
rows_of CrossBorder = cross_rows
rows_of Domestic = domestic_rows

-- ---- what a row gives
-- the first number that is not 0, or 0: of limits the first that is not missing
abbrev pub first_present : List ℕ → ℕ
first_present [] = 0
first_present (limit ∷ limits) = cond (limit is 0) (first_present limits) limit

-- the line's: the category's column, or the first not missing to the right
unfoldable pub line_speed : Category → Order → ℕ
line_speed c o = first_present (drop c.column o.limits)

-- the least of its own, the line's and the slowest record's
unfoldable pub speed_of : Category → Facts → Order → ℕ
speed_of c f o = min c.speed (min (line_speed c o) f.slowest)

-- a row's percentage by train length: of the first end that it is at most
abbrev pub stepped : Steps → ℕ → ℕ
stepped p length = first_of p.beyond (map (λ step. record { gives = step.1; applies = length at_most step.0 }) p.up_to)

-- p is the greater of the table's and byte 6, which is 0 in a domestic order
unfoldable pub percentage_of : Category → Facts → Order → ℕ
percentage_of c f o = max (stepped c.percentage f.trainLength) o.german

-- for a number that no category has
abbrev pub none : Category
none = record { number = 0; speed = 0; percentage = same 0; column = 1; isg = false; weigh = Whole }

-- the category of a number
abbrev pub category_of : ℕ → List Category → Category
category_of n [] = none
category_of n (c ∷ rows) = cond (n is c.number) c (category_of n rows)
