-- Today's rules with 46 put back where it stood before request Five: for the theorems that hold the list against the former, and nothing else.
use Rattle.std.specs.Prelude.{ℕ, ◌≤◌, ◌<◌, ◌≡◌, Bool, true, not, ◌&&◌, List, ◌∷◌, ◌++◌, take, drop, replicate}
use Rattle.lists.specs.Words.{◌above◌, ◌at_most◌, case_at}
use Rattle.facts.specs.Named.{hauled_v_length}
use Rattle.facts.specs.declared.Facts.{Facts}
use Rattle.order.specs.declared.Order.{Order}
use Rattle.categories.specs.Categories.{cross_rows, category_of}
use Rattle.categories.specs.Brakes.{begun_of}
use Rattle.categories.specs.declared.category.Category.{Category}
use Rattle.rules.specs.Rules.{Rule, rule, Terms, terms_of}
use Rattle.rules.specs.Books.{RuleBook, rules_of, broken_by}
use Rattle.rules.specs.CrossBorder.{cross_rules, cross_border}
use Rattle.rules.specs.Limits.{line, having}

-- 46, 1 to 3: more than 10 begun 20 m of the hauled vehicles set to V (note 7)
abbrev pub rule46 : Terms → Facts → Rule
rule46 t f = rule 46 (not t.isg && begun_of f.hauledVLength above 10)

-- its place, counted from 0: behind 44 and before 47
abbrev pub stood : ℕ
stood = 20

abbrev pub former_rules : Terms → Facts → List Rule
former_rules t f = take stood (cross_rules t f) ++ rule46 t f ∷ drop stood (cross_rules t f)

-- nothing else of the book was another
unfoldable pub former_book : RuleBook
former_book = record { rows = cross_border.rows; common = cross_border.common; rules = λ c f o. former_rules (terms_of c f o) f; mark = cross_border.mark }

-- the only lengths by which 46 could be the first broken: more than 700 m set to V in a hauled part of at most 700 m
abbrev pub longer : ℕ → ℕ → Bool
longer vLength length = vLength above 7000 && length at_most 7000

abbrev pub longer_than_all : Facts → Bool
longer_than_all f = longer f.hauledVLength f.hauledLength

-- a category does not come to 46: wherever its test holds, 22, at place 7, is broken
pub record NotReached (c : Category) (f : Facts) (o : Order) : Type 0 where
  pub broken : (case_at 0 (rules_of former_book c f o) stood).applies ≡ true → case_at 0 (rules_of former_book c f o) 7 ≡ rule 22 true
  -- so that the first rule broken is 22 or one before it,
  pub first : (case_at 0 (rules_of former_book c f o) stood).applies ≡ true → (0 < broken_by former_book c f o) × (broken_by former_book c f o ≤ 22)
  -- and never 46
  pub never : broken_by former_book c f o ≡ 46 → ⊥

-- what a category broke where so much was said to be set to V and no other figure or mark, by its number
abbrev pub formerly : ℕ → ℕ → ℕ
formerly vLength n = broken_by former_book (category_of n cross_rows) (having hauled_v_length vLength) (line (replicate 5 100) 100000 100000)
