-- The ceilings: the test and the statement; and that at most 200 good hauled records are within them. Assumes nothing.
use Prim.Native.Nat.{ℕ, zero, suc, ◌≤◌, ◌<◌}
use native.Mathlib.Omega.{arith}
use mathlib.Core.Path.{◌≡◌, refl, sym, ap, ap₂, ◌∙◌}
use mathlib.Core.Bool.{Bool, true, false, ◌&&◌, cond}
use mathlib.Core.List.{List, [], ◌∷◌, ◌++◌, reverse}
use borrow.Author.Tests.{le-leb, leb-true}
use lib.Dec.{leb}
use lib.ListN.{length, take, drop, get_or, length-append, length-reverse}
use Rattle.std.specs.Prelude.{IsTrue, EachIndex, ◌↔◌}
use Rattle.lists.specs.Words.{all, Every}
use Rattle.record.specs.Ranges.{value}
use Rattle.record.specs.declared.vehicle.Setting.{Setting}
use Rattle.record.specs.declared.vehicle.Setting.TheVariants.{Isolated, M, V, R}
use Rattle.record.specs.Vehicles.{nth, vehicle, setting_number, is_wagon, is_hauled_engine, is_isolated, is_m, is_v, has_d_load}
use Rattle.record.specs.declared.vehicle.Vehicle.{Vehicle}
use Rattle.record.proofs.Vehicles.{at_most}
use Rattle.account.specs.Accounts.{account_of}
use Rattle.account.specs.Ceilings.{Figure, ◌up_to◌, figures, within, Within}
use Rattle.account.specs.Groupings.{GoodHauled, Portion}
use Rattle.account.specs.declared.Account.{Account}
use Rattle.lists.proofs.Lists.{both, chain, chain_all, every_left, every_right, every_at}
use Rattle.lists.proofs.Figures.{sum_le, count_le, cond_le, leading_le, longest_le, least_top, firsts_le}

-- ---- the test and the statement, over any table of figures
abbrev fits : Figure → Bool
fits f = leb f.figure f.ceiling

abbrev pub Fits : Figure → Type 0
Fits f = f.figure ≤ f.ceiling

all_every : (fs : List Figure) → all fits fs ≡ true → Every Fits fs
unfolding all
all_every [] e = tt
all_every (f ∷ fs) e =
    let t = both (fits f) (all fits fs) e in
    (leb-true f.figure f.ceiling t.0, all_every fs t.1)

every_all : (fs : List Figure) → Every Fits fs → all fits fs ≡ true
unfolding all
every_all [] e = refl
every_all (f ∷ fs) e = ap₂ ◌&&◌ (le-leb f.figure f.ceiling e.0) (every_all fs e.1)

pub within_test : (a : Account) → Within a → within a ≡ true
unfolding within
within_test a w = every_all (figures a) w

pub test_within : (a : Account) → within a ≡ true → Within a
unfolding within
test_within a e = all_every (figures a) e

-- the statement at one row of the table
pub figure_at_lem : (a : Account) → Within a → (k : ℕ) → Fits (get_or (figures a) k (0 up_to 0))
figure_at_lem a w k = every_at Fits (0 up_to 0) (omega arith) (figures a) k w

-- the test of five figures under one ceiling, which stands for their five rows
five : List ℕ → ℕ → List Figure
five l n = get_or l 0 0 up_to n ∷ get_or l 1 0 up_to n ∷ get_or l 2 0 up_to n ∷ get_or l 3 0 up_to n ∷ get_or l 4 0 up_to n ∷ []

same_if : (b c : Bool) → (b ≡ true → c ≡ true) → (c ≡ true → b ≡ true) → b ≡ c
same_if true c h k = sym (h refl)
same_if false true h k = k refl
same_if false false h k = refl

module _ (l : List ℕ) (long : length l ≡ 5) (n : ℕ) where
  at_five : Every Fits (five l n) → (k : ℕ) → k < 5 → get_or l k 0 ≤ n
  unfolding five
  at_five e zero h = e.0
  at_five e (suc zero) h = e.1.0
  at_five e (suc (suc zero)) h = e.1.1.0
  at_five e (suc (suc (suc zero))) h = e.1.1.1.0
  at_five e (suc (suc (suc (suc zero)))) h = e.1.1.1.1.0
  at_five e (suc (suc (suc (suc (suc k))))) h = absurd (omega arith)

  five_test : (r : Bool) → (IsTrue r ↔ EachIndex l (λ k. get_or l k 0 ≤ n)) → r ≡ all fits (five l n)
  unfolding five
  five_test r e =
      same_if r (all fits (five l n))
      (λ t. let h = e.0 t in every_all (five l n) (h 0 (omega arith), (h 1 (omega arith), (h 2 (omega arith), (h 3 (omega arith), (h 4 (omega arith), tt))))))
      (λ t. e.1 (λ k h. at_five (all_every (five l n) t) k (omega arith)))

pub chain_within : (a : Account) → length a.first ≡ 5 → (front : Bool) → front ≡ chain fits true (take 15 (figures a)) → (r : Bool) → (IsTrue r ↔ EachIndex a.first (λ k. get_or a.first k 0 ≤ 4))
    → chain fits (front && r) (drop 20 (figures a)) ≡ within a
unfolding within five
chain_within a long front e r h =
    ap₂ (λ (x y : Bool). chain fits (x && y) (drop 20 (figures a))) e (five_test a.first long 4 r h)
    ∙ ap (λ (x : Bool). chain fits x (drop 20 (figures a))) (sym (chain_all fits (chain fits true (take 15 (figures a))) (five a.first 4)))
    ∙ chain_all fits true (figures a)

-- ---- at most 200 good hauled records
-- a field of a good record, by the table's high end
field_le : (g : Vehicle → ℕ) (f : ℕ) → f < 13 → ((r : List ℕ) → g (vehicle r) ≡ value r (nth f)) → (v : Vehicle) → GoodHauled v → g v ≤ (nth f).high
field_le g f h same v good =
    let e : g v ≡ value good.bytes (nth f) = ap g good.says ∙ same good.bytes in
    omega (arith, at_most good.bytes good.is_good f h)

pub mass_le : (v : Vehicle) → GoodHauled v → v.mass ≤ 2500
unfolding vehicle
mass_le = field_le (λ v. v.mass) 1 (omega arith) (λ r. refl)

pub vmass_le : (v : Vehicle) → GoodHauled v → v.vmass ≤ 2500
unfolding vehicle
vmass_le = field_le (λ v. v.vmass) 2 (omega arith) (λ r. refl)

pub mmass_le : (v : Vehicle) → GoodHauled v → v.mmass ≤ 2500
unfolding vehicle
mmass_le = field_le (λ v. v.mmass) 3 (omega arith) (λ r. refl)

pub length_le : (v : Vehicle) → GoodHauled v → v.length ≤ 1000
unfolding vehicle
length_le = field_le (λ v. v.length) 4 (omega arith) (λ r. refl)

pub axles_le : (v : Vehicle) → GoodHauled v → v.axles ≤ 24
unfolding vehicle
axles_le = field_le (λ v. v.axles) 5 (omega arith) (λ r. refl)

-- a setting is one of four
setting_le : (s : Setting) → setting_number s ≤ 3
setting_le Isolated = omega arith
setting_le M = omega arith
setting_le V = omega arith
setting_le R = omega arith

-- the M mass of a hauled engine set to M, the V mass of a wagon set to M
pub engine_le : (v : Vehicle) → GoodHauled v → cond (is_hauled_engine v && is_m v) v.mmass 0 ≤ 2500
engine_le v g = cond_le (is_hauled_engine v && is_m v) v.mmass 2500 (mmass_le v g)

pub wagon_le : (v : Vehicle) → GoodHauled v → cond (is_wagon v && is_m v) v.vmass 0 ≤ 2500
wagon_le v g = cond_le (is_wagon v && is_m v) v.vmass 2500 (vmass_le v g)

-- a line each of what holds of every member of a list
infixr 1 ◌⊗◌
pub ◌⊗◌ : {A B : Type 0} → A → B → A × B
a ⊗ b = (a, b)

-- the account of at most 200 good hauled records is within its ceilings
pub portion_ceilings : (hauled : List Vehicle) → Portion hauled → Within (account_of hauled)
unfolding account_of
portion_ceilings xs h =
    let g = h.each in
    let settings-small = firsts_le 5 4 (λ (v : Vehicle). setting_number v.setting) GoodHauled 4 (omega arith) (λ v d. omega (arith, setting_le v.setting)) xs g in
    h.few
    ⊗ omega (arith, sum_le GoodHauled (λ v. v.mass) 2500 mass_le xs g)
    ⊗ omega (arith, sum_le GoodHauled (λ v. cond (is_v v) v.vmass 0) 2500 (λ v d. cond_le (is_v v) v.vmass 2500 (vmass_le v d)) xs g)
    ⊗ omega (arith, sum_le GoodHauled (λ v. cond (is_m v) v.mmass 0) 2500 (λ v d. cond_le (is_m v) v.mmass 2500 (mmass_le v d)) xs g)
    ⊗ omega (arith, sum_le GoodHauled (λ v. v.length) 1000 length_le xs g)
    ⊗ omega (arith, sum_le GoodHauled (λ v. v.axles) 24 axles_le xs g)
    ⊗ omega (arith, sum_le GoodHauled (λ v. cond (is_v v) v.axles 0) 24 (λ v d. cond_le (is_v v) v.axles 24 (axles_le v d)) xs g)
    ⊗ omega (arith, count_le is_hauled_engine xs)
    ⊗ omega (arith, count_le is_m xs)
    ⊗ omega (arith, count_le is_isolated xs)
    ⊗ omega (arith, count_le has_d_load xs)
    ⊗ omega (arith, leading_le is_isolated xs)
    ⊗ omega (arith, leading_le is_isolated (reverse xs), length-reverse xs)
    ⊗ omega (arith, longest_le is_isolated xs)
    ⊗ least_top 200 (λ (v : Vehicle). v.speed) xs
    ⊗ settings-small 0
    ⊗ settings-small 1
    ⊗ settings-small 2
    ⊗ settings-small 3
    ⊗ settings-small 4
    ⊗ omega (arith, sum_le GoodHauled (λ v. cond (is_v v) v.length 0) 1000 (λ v d. cond_le (is_v v) v.length 1000 (length_le v d)) xs g)
    ⊗ omega (arith, sum_le GoodHauled (λ v. cond (is_hauled_engine v && is_m v) v.mmass 0) 2500 engine_le xs g)
    ⊗ omega (arith, sum_le GoodHauled (λ v. cond (is_wagon v && is_m v) v.vmass 0) 2500 wagon_le xs g)
    ⊗ tt

pub portion_left : (xs ys : List Vehicle) → Portion (xs ++ ys) → Portion xs
portion_left xs ys h = record { each = every_left GoodHauled xs ys h.each; few = omega (arith, length-append xs ys) }

pub portion_right : (xs ys : List Vehicle) → Portion (xs ++ ys) → Portion ys
portion_right xs ys h = record { each = every_right GoodHauled xs ys h.each; few = omega (arith, length-append xs ys) }
