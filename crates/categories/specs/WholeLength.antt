-- k and the margin by the whole hauled length, as they were before request Three: for the theorems that hold the new against the old, and nothing else.
use Rattle.std.specs.Prelude.{ℕ, ℤ}
use Rattle.facts.specs.declared.Facts.{Facts}
use Rattle.order.specs.declared.Order.{Order}
use Rattle.categories.specs.Brakes.{deduction_by, margin_by}
use Rattle.categories.specs.declared.category.Category.{Category}
use Rattle.categories.specs.declared.category.Weigh.{Weigh}

abbrev pub whole_deduction_of : Weigh → Facts → ℕ
whole_deduction_of w f = deduction_by w f.hauledLength

unfoldable pub whole_margin_for : Category → Facts → Order → ℤ
whole_margin_for c f o = margin_by (whole_deduction_of c.weigh f) c f o
