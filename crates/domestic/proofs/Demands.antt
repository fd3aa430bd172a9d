-- The domestic book: the theorems, over the definitions of specs/. Assumes nothing.
use native.Mathlib.Omega.{arith}
use mathlib.Core.Path.{◌≡◌, refl}
use mathlib.Core.Bool.{not, ◌&&◌}
use mathlib.Core.List.{[], ◌∷◌}
use lib.IntN.{pos}
use lib.Signed.{lt_z}
use Rattle.lists.specs.Words.{case_at}
use Rattle.facts.specs.declared.Facts.{Facts}
use Rattle.order.specs.declared.Order.{Order}
use Rattle.categories.specs.Categories.{domestic_rows}
use Rattle.categories.specs.Brakes.{margin_for}
use Rattle.categories.specs.declared.category.Category.{Category}
use Rattle.rules.specs.Rules.{rule, numbers_of}
use Rattle.rules.specs.Books.{rules_of, Sound}
use Rattle.rules.specs.Grants.{best_of, granted_of, decision_of}
use Rattle.rules.proofs.Offers.{granted_decided}
use Rattle.domestic.specs.Rules.{terms_of, domestic}

-- its rows are the table's six categories
pub domestic_rows_lem : domestic.rows ≡ domestic_rows
unfolding domestic
domestic_rows_lem = refl

-- ---- the rules, in the order they are asked
-- no rule is common to all, and a category's list runs from 60 to 88
pub rule_numbers : (c : Category) (f : Facts) (o : Order)
    → (domestic.common f ≡ [])
    × (numbers_of (rules_of domestic c f o)
    ≡ 60 ∷ 61 ∷ 62 ∷ 63 ∷ 64 ∷ 65 ∷ 66 ∷ 67 ∷ 68 ∷ 69 ∷ 70 ∷ 71 ∷ 72 ∷ 73 ∷ 74 ∷ 75 ∷ 76 ∷ 77 ∷ 78 ∷ 79 ∷ 80 ∷ 81 ∷ 82 ∷ 83 ∷ 84 ∷ 85 ∷ 86 ∷ 87 ∷ 88 ∷ [])
unfolding domestic
rule_numbers c f o = (refl, refl)

-- so no number is 0, and the categories' numbers rise from 1 to 6
pub domestic_sound : Sound domestic
unfolding domestic
domestic_sound = record { numbered = λ c f o. omega arith; rising = omega arith }

-- the last of ME, and of MA, is broken exactly when the margin is below zero
pub rule_77 : (c : Category) (f : Facts) (o : Order) → case_at 0 (rules_of domestic c f o) 17 ≡ rule 77 (not c.isg && lt_z (margin_for c f o) (pos 0))
unfolding domestic terms_of
rule_77 c f o = refl

pub rule_88 : (c : Category) (f : Facts) (o : Order) → case_at 0 (rules_of domestic c f o) 28 ≡ rule 88 (c.isg && lt_z (margin_for c f o) (pos 0))
unfolding domestic terms_of
rule_88 c f o = refl

-- what is granted is the best of what is decided to be offered
pub granted_of_decided : (f : Facts) (o : Order) → best_of o.asked (decision_of domestic f o).offers ≡ granted_of domestic f o
unfolding domestic
granted_of_decided f o = granted_decided domestic f o (omega arith)
