-- What the figures say of the records: rules 19, 20, 43, 44 and 67, and the long locomotive. Assumes nothing.
use Prim.Native.Nat.{ℕ, suc, ◌+◌, ◌≤◌}
use native.Mathlib.Omega.{arith}
use native.Mathlib.Decide.{dec_le}
use mathlib.Core.Path.{◌≡◌, refl, sym, ap₂, ◌∙◌}
use mathlib.Core.Bool.{Bool, true, false, not, ◌&&◌, ◌||◌, cond}
use mathlib.Core.List.{List, [], ◌∷◌, reverse}
use lib.ListN.{length}
use borrow.Author.Tests.{lt-ltb, le-ltb}
use Rattle.lists.specs.Words.{◌is◌, ◌above◌, all}
use Rattle.lists.specs.Figures.{count, some}
use Rattle.record.specs.Vehicles.{setting_number, is_hauled_engine, is_isolated, is_m}
use Rattle.record.specs.declared.vehicle.Vehicle.{Vehicle}
use Rattle.lists.proofs.Figures.{first_leading, some_firsts, some_after}
use Rattle.account.specs.Accounts.{account_of}
use Rattle.facts.specs.Engines.{engines_of}
use Rattle.facts.specs.Readings.{first_isolated, first_isolated_by, last_isolated, last_isolated_by, first_five_v, first_five_v_by, after_fifth_m, after_fifth_m_by, is_long, is_long_by, few_wagons, few_wagons_by}

-- what 19, 20, 43 and 44 ask of runs and settings, read off the figures, is what they ask over the records
pub rule_19 : (hauled : List Vehicle) → first_isolated hauled ≡ first_isolated_by (account_of hauled)
unfolding account_of
rule_19 hauled = first_leading is_isolated hauled

pub rule_20 : (hauled : List Vehicle) → last_isolated hauled ≡ last_isolated_by (account_of hauled)
unfolding account_of
rule_20 hauled = first_leading is_isolated (reverse hauled)

pub rule_43 : (hauled : List Vehicle) → first_five_v hauled ≡ first_five_v_by (account_of hauled)
unfolding account_of
rule_43 hauled = some_firsts (λ s. s is 2) (λ (v : Vehicle). setting_number v.setting) 4 refl 5 hauled

pub rule_44 : (hauled : List Vehicle) → after_fifth_m hauled ≡ after_fifth_m_by (account_of hauled)
unfolding account_of
rule_44 hauled = some_after (λ s. s is 1) (λ (v : Vehicle). setting_number v.setting) 4 refl 5 hauled

-- braked as a long locomotive, over the records and over the engines and the figures
all_some : {A : Type 0} (p : A → Bool) (xs : List A) → all p xs ≡ not (some (λ x. not (p x)) xs)
unfolding all
all_some p [] = refl
all_some p (x ∷ xs) = go (p x) (all_some p xs)
  where
    go : (b : Bool) → all p xs ≡ not (some (λ x. not (p x)) xs) → (b && all p xs) ≡ not (not b || some (λ x. not (p x)) xs)
    go true e = e
    go false e = refl

pub long_agrees : (working hauled : List Vehicle) → is_long working hauled ≡ is_long_by (engines_of working) (account_of hauled)
unfolding account_of engines_of
long_agrees working hauled =
    ap₂ (λ (x y : Bool). x && not y) (all_some is_m working) (some_firsts (λ s. s is 2 || s is 3) (λ (v : Vehicle). setting_number v.setting) 4 refl 5 hauled)

-- every vehicle is a hauled engine or is none
engines_or_not : (p : Vehicle → Bool) (xs : List Vehicle) → length xs ≡ count p xs + count (λ v. not (p v)) xs
engines_or_not p [] = refl
engines_or_not p (v ∷ xs) = go (p v) (engines_or_not p xs)
  where
    go : (b : Bool) → length xs ≡ count p xs + count (λ v. not (p v)) xs → suc (length xs) ≡ (cond b 1 0 + count p xs) + (cond (not b) 1 0 + count (λ v. not (p v)) xs)
    go true e = omega (arith, e)
    go false e = omega (arith, e)

few : (n e w : ℕ) → n ≡ e + w → (2 above w) ≡ (e + 2 above n)
few n e w q = go (dec_le 2 w)
  where
    go : Dec (2 ≤ w) → (2 above w) ≡ (e + 2 above n)
    go (yes h) = le-ltb w 2 h ∙ sym (le-ltb n (e + 2) (omega arith))
    go (no h) = lt-ltb w 2 (omega arith) ∙ sym (lt-ltb n (e + 2) (omega arith))

pub rule_67 : (hauled : List Vehicle) → few_wagons hauled ≡ few_wagons_by (account_of hauled)
unfolding account_of
rule_67 hauled = few (length hauled) (count is_hauled_engine hauled) (count (λ v. not (is_hauled_engine v)) hauled) (engines_or_not is_hauled_engine hauled)
