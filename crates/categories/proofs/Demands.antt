-- The categories: the theorems, over the definitions of specs/. Assumes nothing.
use Prim.Native.Nat.{ℕ, suc, ◌≤◌}
use native.Mathlib.Omega.{arith}
use mathlib.Core.Path.{◌≡◌, refl, sym, ap, ◌∙◌}
use mathlib.Core.Bool.{Bool, true, false, cond}
use mathlib.Core.List.{List, [], ◌∷◌, ◌++◌, map}
use lib.ListN.{drop}
use Rattle.lists.specs.Words.{◌at_most◌, Every}
use Rattle.lists.specs.Figures.{some, first_is}
use Rattle.lists.proofs.Lists.{every_append, every_left, every_right}
use Rattle.lists.proofs.Figures.{none_first}
use lib.Signed.{◌≤ℤ◌}
use Rattle.record.specs.Vehicles.{is_working, is_v}
use Rattle.record.specs.declared.vehicle.Vehicle.{Vehicle}
use Rattle.account.specs.Accounts.{account_of}
use Rattle.account.specs.Groupings.{Hauled}
use Rattle.account.proofs.Demands.{hauled_not_working, v_length_kept}
use Rattle.facts.specs.Facts.{Working, facts_of, beside_of, facts_beside}
use Rattle.facts.specs.declared.Facts.{Facts}
use Rattle.facts.proofs.Demands.{v_length_within, v_length_beside, facts_agree}
use Rattle.order.specs.declared.Order.{Order}
use Rattle.categories.specs.Categories.{cross_rows, domestic_rows, same, first_present, stepped, speed_of}
use Rattle.categories.specs.Brakes.{deduction_by, deduction_of, margin_for}
use Rattle.categories.specs.WholeLength.{whole_deduction_of, whole_margin_for}
use Rattle.categories.specs.declared.category.Category.{Category}
use Rattle.categories.specs.declared.category.Weigh.{Weigh}
use Rattle.categories.proofs.Deductions as deductions

-- ---- the five categories, column by column of document 01's table
pub category_table :
    (map (λ (c : Category). c.number) cross_rows ≡ 1 ∷ 2 ∷ 3 ∷ 4 ∷ 5 ∷ [])
    × (map (λ (c : Category). c.speed) cross_rows ≡ 120 ∷ 100 ∷ 100 ∷ 100 ∷ 90 ∷ [])
    × (map (λ (c : Category). c.percentage) cross_rows ≡ map same (77 ∷ 60 ∷ 60 ∷ 57 ∷ 50 ∷ []))
    × (map (λ (c : Category). c.column) cross_rows ≡ map suc (0 ∷ 1 ∷ 2 ∷ 2 ∷ 3 ∷ []))
category_table = (refl, refl, refl, refl)

-- ---- what a cross-border row reads of an order's six limits and of the train's length
-- a column counted behind ME140 is the one counted from ME120 among the five, whatever stands for ME140
pub cross_line_kept : (n : ℕ) (me140 : ℕ) (limits : List ℕ) → first_present (drop (suc n) (me140 ∷ limits)) ≡ first_present (drop n limits)
cross_line_kept n me140 limits = refl

-- a percentage that is the same at every train length is the table's
pub cross_percentage_kept : (p length : ℕ) → stepped (same p) length ≡ p
cross_percentage_kept p length = go (length at_most 0)
  where
    go : (b : Bool) → cond b p (cond b p (cond b p p)) ≡ p
    go true = refl
    go false = refl

-- ---- the six domestic categories, column by column of the table
pub domestic_table :
    (map (λ (c : Category). c.number) domestic_rows ≡ 1 ∷ 2 ∷ 3 ∷ 4 ∷ 5 ∷ 6 ∷ [])
    × (map (λ (c : Category). c.speed) domestic_rows ≡ 140 ∷ 120 ∷ 100 ∷ 100 ∷ 90 ∷ 80 ∷ [])
    × (map (λ (c : Category). c.column) domestic_rows ≡ 0 ∷ 1 ∷ 2 ∷ 3 ∷ 4 ∷ 5 ∷ [])
domestic_table = (refl, refl, refl)

-- no line and no record gives a category more than its own speed
pub own_speed_most : (c : Category) (f : Facts) (o : Order) → speed_of c f o ≤ c.speed
unfolding speed_of
own_speed_most c f o = omega arith

-- ---- the length that k counts, against the whole hauled length
-- where it is at most the whole, k has not grown
pub k_not_grown : (w : Weigh) (f : Facts) → f.hauledVLength ≤ f.hauledLength → deduction_of w f ≤ whole_deduction_of w f
k_not_grown = deductions.k_not_grown

-- so it has for no train, and for no train, category and order is the margin less than it was
pub train_k_not_grown : (w : Weigh) (train : List Vehicle) → deduction_of w (facts_of train) ≤ whole_deduction_of w (facts_of train)
train_k_not_grown w train = deductions.k_not_grown w (facts_of train) (v_length_within train)

pub train_margin_not_less : (c : Category) (train : List Vehicle) (o : Order) → whole_margin_for c (facts_of train) o ≤ℤ margin_for c (facts_of train) o
train_margin_not_less c train o = deductions.margin_not_less c (facts_of train) o (v_length_within train)

-- and so of engines with an account that comes from a list
pub account_k_not_grown : (w : Weigh) (engines hauled : List Vehicle) → deduction_of w (facts_beside engines (account_of hauled)) ≤ whole_deduction_of w (facts_beside engines (account_of hauled))
account_k_not_grown w engines hauled = deductions.k_not_grown w (facts_beside engines (account_of hauled)) (v_length_beside engines hauled)

pub account_margin_not_less : (c : Category) (engines hauled : List Vehicle) (o : Order) → whole_margin_for c (facts_beside engines (account_of hauled)) o ≤ℤ margin_for c (facts_beside engines (account_of hauled)) o
account_margin_not_less c engines hauled o = deductions.margin_not_less c (facts_beside engines (account_of hauled)) o (v_length_beside engines hauled)

-- ---- vehicles that are isolated, in M or in R, put in anywhere among the hauled, leave k as it was
pub account_k_kept : (w : Weigh) (engines front others back : List Vehicle) → some is_v others ≡ false
    → deduction_of w (facts_beside engines (account_of (front ++ (others ++ back)))) ≡ deduction_of w (facts_beside engines (account_of (front ++ back)))
unfolding beside_of
account_k_kept w engines front others back none = ap (deduction_by w) (v_length_kept front others back none)

pub train_k_kept : (w : Weigh) (working front others back : List Vehicle) → Every Working working → Every Hauled (front ++ (others ++ back)) → some is_v others ≡ false
    → deduction_of w (facts_of (working ++ (front ++ (others ++ back)))) ≡ deduction_of w (facts_of (working ++ (front ++ back)))
train_k_kept w working front others back each hauled none =
    ap (deduction_of w) (facts_agree working (front ++ (others ++ back)) each (first_hauled (front ++ (others ++ back)) hauled))
    ∙ account_k_kept w working front others back none
    ∙ ap (deduction_of w) (sym (facts_agree working (front ++ back) each (first_hauled (front ++ back) without)))
  where
    first_hauled : (xs : List Vehicle) → Every Hauled xs → first_is is_working xs ≡ false
    first_hauled xs h = none_first is_working xs (hauled_not_working xs h)

    without : Every Hauled (front ++ back)
    without = every_append Hauled front back (every_left Hauled front (others ++ back) hauled) (every_right Hauled others back (every_right Hauled front (others ++ back) hauled))
