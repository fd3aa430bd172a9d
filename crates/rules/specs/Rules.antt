-- A rule is a number and a test; a list of rules is a list of numbers beside a list of marks. What the cross-border tests read beside the facts.
use Rattle.std.specs.Prelude.{ℕ, min, Bool, cond, List, map, pos}
use Rattle.std.specs.Int.Signed.{lt_z}
use Rattle.lists.specs.Words.{Case, first_of}
use Rattle.facts.specs.declared.Facts.{Facts}
use Rattle.order.specs.declared.Order.{Order}
use Rattle.categories.specs.Categories.{line_speed}
use Rattle.categories.specs.Brakes.{margin_for}
use Rattle.categories.specs.declared.category.Category.{Category}

abbrev pub Rule : Type 0
Rule = Case ℕ

abbrev pub rule : ℕ → Bool → Rule
rule number broken = record { gives = number; applies = broken }

-- the number of the first rule broken, or 0
abbrev pub first_broken : List Rule → ℕ
first_broken = first_of 0

abbrev pub numbers_of : List Rule → List ℕ
numbers_of rules = map (λ r. r.gives) rules

-- whether each rule is broken
abbrev pub marks_of : List Rule → List Bool
marks_of rules = map (λ r. r.applies) rules

-- what a category and the order ask beside the facts
pub record Terms : Type 0 where
  -- 4 and 5
  pub isg : Bool
  -- the line's speed, 0 where every column is missing
  pub line : ℕ
  -- the most engines
  pub most : ℕ
  -- the smaller of LRA and admissible mass
  pub load : ℕ
  -- braked mass too small
  pub short : Bool

-- those of the cross-border rules, by whether it is one of 4 and 5, the line's speed and whether the braked mass is too small
abbrev pub terms_at : Bool → ℕ → Bool → Order → Terms
terms_at isg line short o =
    record {
      isg = isg;
      line = line;
      -- more engines than 3 (1 to 3) or 6 (4 and 5)
      most = cond isg 6 3;
      load = min o.coupling o.admissible;
      short = short;
    }

-- 47, and 77 and 88 of the domestic book: broken exactly when the margin is below zero
abbrev pub is_short : Category → Facts → Order → Bool
is_short c f o = lt_z (margin_for c f o) (pos 0)

-- of a category and the order
unfoldable pub terms_of : Category → Facts → Order → Terms
terms_of c f o = terms_at c.isg (line_speed c o) (is_short c f o) o
