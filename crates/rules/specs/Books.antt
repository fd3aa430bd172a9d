-- A rule book: its categories, its rules, and the first rule that a category breaks.
use Rattle.std.specs.Prelude.{ℕ, ◌<◌, Bool, List, [], ◌∷◌}
use Rattle.lists.specs.Words.{Every}
use Rattle.facts.specs.declared.Facts.{Facts}
use Rattle.order.specs.declared.Order.{Order}
use Rattle.categories.specs.declared.category.Category.{Category}
use Rattle.rules.specs.Rules.{Rule, first_broken}

-- the categories in order, the rules common to all, the rules of a category in the order they are asked, of a train on an order, and when the mark byte is 1, of the asked number
pub record RuleBook : Type 0 where
  pub rows : List Category
  pub common : Facts → List Rule
  pub rules : Category → Facts → Order → List Rule
  pub mark : ℕ → Facts → Bool

-- the rules of a category
abbrev pub rules_of : RuleBook → Category → Facts → Order → List Rule
rules_of b c f o = b.rules c f o

-- the first rule that a category breaks, or 0
unfoldable pub broken_by : RuleBook → Category → Facts → Order → ℕ
broken_by b c f o = first_broken (rules_of b c f o)

-- the categories' numbers rise, from above n
abbrev pub Rise : ℕ → List Category → Type 0
Rise n [] = Unit
Rise n (c ∷ rows) = (n < c.number) × Rise c.number rows

-- what the theorems ask of a book: no rule has the number 0, and the categories' numbers rise
pub record Sound (b : RuleBook) : Type 0 where
  pub numbered : (c : Category) (f : Facts) (o : Order) → Every (λ r. 0 < r.gives) (rules_of b c f o)
  pub rising : Rise 0 b.rows
