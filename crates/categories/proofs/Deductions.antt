-- k and the margin, held against those by the whole hauled length. Assumes nothing.
use Prim.Native.Nat.{◌≤◌}
use native.Mathlib.Omega.{arith}
use lib.Signed.{◌≤ℤ◌}
use Rattle.margin.specs.Margin.{fourfold}
use Rattle.margin.proofs.Demands.{less_deducted}
use Rattle.facts.specs.declared.Facts.{Facts}
use Rattle.order.specs.declared.Order.{Order}
use Rattle.categories.specs.Categories.{percentage_of}
use Rattle.categories.specs.Brakes.{parts_of, deduction_of, margin_for}
use Rattle.categories.specs.WholeLength.{whole_deduction_of, whole_margin_for}
use Rattle.categories.specs.declared.category.Category.{Category}
use Rattle.categories.specs.declared.category.Weigh.{Weigh}
use Rattle.categories.specs.declared.category.Weigh.TheVariants.{ThreeQuarters, Whole, Long}

pub k_not_grown : (w : Weigh) (f : Facts) → f.hauledVLength ≤ f.hauledLength → deduction_of w f ≤ whole_deduction_of w f
k_not_grown ThreeQuarters f h = omega arith
k_not_grown Whole f h = omega arith
k_not_grown Long f h = omega arith

pub margin_not_less : (c : Category) (f : Facts) (o : Order) → f.hauledVLength ≤ f.hauledLength → whole_margin_for c f o ≤ℤ margin_for c f o
unfolding whole_margin_for margin_for
margin_not_less c f o h =
    less_deducted (fourfold (parts_of c.weigh f)) (whole_deduction_of c.weigh f) (deduction_of c.weigh f) (percentage_of c f o) f.trainMass (k_not_grown c.weigh f h)
