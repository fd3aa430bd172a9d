-- Document 01, "The sheet, 32 bytes", and the 33 of request Six: its figures, and where each stands, of any rule book.
use Rattle.std.specs.Prelude.{ℕ, ◌-◌, cond, List, [], ◌∷◌, ◌++◌, map, get_or, take, replicate}
use Rattle.lists.specs.Words.{◌at_most◌}
use Rattle.lists.specs.Numbers.{four_bytes}
use Rattle.margin.specs.Margin.{tonnes_of, bytes_of}
use Rattle.facts.specs.declared.Facts.{Facts}
use Rattle.order.specs.declared.Book.{Book}
use Rattle.order.specs.declared.Book.TheVariants.{CrossBorder, Domestic}
use Rattle.order.specs.declared.Order.{Order}
use Rattle.categories.specs.Categories.{percentage_of, category_of}
use Rattle.categories.specs.Brakes.{margin_for, braked_of}
use Rattle.categories.specs.declared.category.Category.{Category}
use Rattle.rules.specs.Rules.{first_broken}
use Rattle.rules.specs.Books.{RuleBook, broken_by}
use Rattle.rules.specs.Grants.{absent, granted_number, granted_speed, decision_of}
use Rattle.sheets.specs.declared.Sheet.{Sheet}

-- bytes of a sheet: a rule byte more where there is a category more
abbrev pub sheet_length : Book → ℕ
sheet_length CrossBorder = 32
sheet_length Domestic = 33

-- the first of the margin's three
abbrev pub margin_at : Book → ℕ
margin_at CrossBorder = 10
margin_at Domestic = 11

-- the category asked
abbrev pub asked_of : RuleBook → Order → Category
asked_of b o = category_of o.asked b.rows

unfoldable pub figures_of : RuleBook → Facts → Order → Sheet
figures_of b f o =
    record {
      asked = o.asked;
      common = first_broken (b.common f);
      decision = decision_of b f o;
      dloads = f.dloads;
      -- of the asked category, in whole tonnes, rounded toward minus infinity
      margin = bytes_of (tonnes_of (margin_for (asked_of b o) f o));
      percentage = percentage_of (asked_of b o) f o;
      mark = cond (b.mark o.asked f) 1 0;
      isolated = f.isolated;
      hauled = f.hauledMass;
      train = f.trainMass;
      -- after deduction for the asked category
      braked = braked_of (asked_of b o) f;
      length = f.trainLength;
    }

-- what follows the rule bytes; the places are those of a cross-border sheet, in a domestic one it stands one byte later
abbrev pub tail_bytes : Sheet → List ℕ
tail_bytes x =
    -- 9 records with D load
    x.dloads
    -- 10-12 margin in whole tonnes, two's complement in three bytes
    ∷ get_or x.margin 0 0
    ∷ get_or x.margin 1 0
    ∷ get_or x.margin 2 0
    -- 13 its p; 14; 15 isolated records
    ∷ x.percentage
    ∷ x.mark
    ∷ x.isolated
    -- 16-19 hauled mass; 20-23 train mass; 24-27 braked mass after deduction; 28-31 train length
    ∷ four_bytes x.hauled (four_bytes x.train (four_bytes x.braked (four_bytes x.length [])))

-- the first four bytes, and what follows
abbrev four_first : Sheet → List ℕ → List ℕ
four_first x rest =
    -- 0 asked; 1 granted, or 0; 2 granted speed, or 0; 3 first common rule broken, or 0
    x.asked
    ∷ granted_number x.decision.granted
    ∷ granted_speed x.decision.granted
    ∷ x.common
    ∷ rest

-- from 4 on the first rule broken by each category, or 0: to 8 by categories 1 to 5, in a domestic sheet to 9 by 1 to 6
abbrev pub sheet_bytes : List ℕ → Sheet → List ℕ
sheet_bytes rules x = four_first x (rules ++ tail_bytes x)

unfoldable pub sheet_of : RuleBook → Facts → Order → List ℕ
sheet_of b f o = sheet_bytes (map (λ c. broken_by b c f o) b.rows) (figures_of b f o)

-- ---- how the bytes are laid; the code's functions promise it to each other
-- a sheet in 33 bytes, whichever the book: 32 and a 0, or all 33
abbrev pub in_most : List ℕ → List ℕ
in_most sheet = take 33 (sheet ++ (0 ∷ []))

-- the first four bytes, and a rule byte for each of six categories
abbrev pub head_bytes : Sheet → List ℕ
head_bytes x =
    four_first x
    ((get_or x.decision.offers 0 absent).broken
    ∷ (get_or x.decision.offers 1 absent).broken
    ∷ (get_or x.decision.offers 2 absent).broken
    ∷ (get_or x.decision.offers 3 absent).broken
    ∷ (get_or x.decision.offers 4 absent).broken
    ∷ (get_or x.decision.offers 5 absent).broken
    ∷ [])

-- the first common rule broken, of what category 1 breaks: the cross-border ones go up to 23, a domestic one there is not
abbrev pub common_by : Book → ℕ → ℕ
common_by CrossBorder first = cond (first at_most 23) first 0
common_by Domestic first = 0

-- the head up to where the tail begins, the tail, which ends a sheet of so many bytes, zeros up to 33
abbrev pub laid : List ℕ → List ℕ → ℕ → List ℕ
laid head tail length = take (length - 23) head ++ (tail ++ replicate (33 - length) 0)
