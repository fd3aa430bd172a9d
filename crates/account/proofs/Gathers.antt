-- What a loop gathers of a portion, one record more; and the account out of it. Assumes nothing.
use Prim.Native.Nat.{ℕ, zero, suc, ◌+◌, ◌≤◌, min, max}
use native.Mathlib.Omega.{arith}
use native.Mathlib.Nat.{add-zero, zero-add}
use native.Mathlib.Numerals.{add-one, one-add}
use mathlib.Core.Path.{◌≡◌, refl, sym, ap, subst, ◌∙◌}
use mathlib.Core.Bool.{Bool, true, false, not, ◌&&◌, ◌||◌, cond, or-false}
use mathlib.Core.List.{List, [], ◌∷◌, ◌++◌, map, reverse}
use borrow.Author.Tests.{le-ltb, lt-ltb}
use lib.Dec.{eqb, ltb, leb-suc-suc}
use lib.ListN.{length, set, length-append, length-reverse}
use Rattle.lists.specs.Words.{leading, Every}
use Rattle.lists.specs.Figures.{count, some, trailing, longest, behind, least}
use Rattle.lists.proofs.Lists.{every_append}
use Rattle.lists.proofs.Figures.{some_append, trailing_append, longest_append, least_append, least_top, sum_le, count_le, cond_le, leading_le, some_count, sum_one, trailing_longest, firsts_one}
use Rattle.record.specs.Records.{records}
use Rattle.record.specs.Vehicles.{vehicle, kind_number, setting_number, is_wagon, is_hauled_engine, is_isolated, is_m, is_v, is_r, is_joined, has_matrossow, has_d_load}
use Rattle.record.specs.declared.vehicle.Setting.{Setting}
use Rattle.record.specs.declared.vehicle.Setting.TheVariants.{Isolated, M, V, R}
use Rattle.record.specs.declared.vehicle.Vehicle.{Vehicle}
use Rattle.record.proofs.Vehicles.{vehicles_snoc, length_vehicles}
use Rattle.account.proofs.Portions.{Turn}
use Rattle.account.specs.Groupings.{Hauled, GoodHauled}
use Rattle.account.specs.Gathering.{sums_of, sums_by_setting, gathered, sums_with, sums_at, with_one, SumsRoom, Room}
use Rattle.account.specs.declared.gather.Sums.{Sums}
use Rattle.account.specs.declared.gather.Gathered.{Gathered}
use Rattle.account.proofs.Ceils.{mass_le, vmass_le, mmass_le, length_le, axles_le, engine_le, wagon_le}

-- an engine stands behind a wagon where not all of them lead
ahead_step : (k : ℕ) → k ≤ 1 → (s b : Bool) (l c : ℕ) → b ≡ ltb l c → s ≡ ltb 0 c
    → ((eqb k 0 && s) || b) ≡ ltb (cond (eqb k 1) (suc l) 0) (cond (eqb k 1) 1 0 + c)
ahead_step zero h s b l zero d e = rw (d, e, le-ltb l 0 (omega arith))
ahead_step zero h s b l (suc c) d e = rw (e, zero-add, lt-ltb 0 (suc c) (omega arith))
ahead_step (suc zero) h s b l c d e = d ∙ sym (leb-suc-suc (suc l) c) ∙ ap (ltb (suc l)) (sym (one-add c))
ahead_step (suc (suc k)) h s b l c d e = absurd (omega arith)

pub behind_ahead : (xs : List Vehicle) → Every Hauled xs → behind is_wagon is_hauled_engine xs ≡ ltb (leading is_hauled_engine xs) (count is_hauled_engine xs)
behind_ahead [] h = refl
behind_ahead (x ∷ xs) h =
    ahead_step (kind_number x.kind) h.0 (some is_hauled_engine xs) (behind is_wagon is_hauled_engine xs) (leading is_hauled_engine xs) (count is_hauled_engine xs)
    (behind_ahead xs h.1) (some_count is_hauled_engine xs)

-- ---- one more: numbers and Booleans alone
trail_step : (b : Bool) (t : ℕ) → cond (eqb (cond b 1 0) 1) (cond b 1 0 + t) (cond b 1 0) ≡ cond b (t + 1) 0
trail_step true t = omega arith
trail_step false t = refl

long_step : (b : Bool) (l t : ℕ) → t ≤ l → max (max l (max (cond b 1 0) 0)) (t + cond b 1 0) ≡ max l (cond b (t + 1) 0)
long_step true l t h = omega arith
long_step false l t h = omega arith

some_one : (p : Vehicle → Bool) (xs : List Vehicle) (v : Vehicle) → some p (xs ++ (v ∷ [])) ≡ (some p xs || p v)
some_one p xs v = some_append p xs (v ∷ []) ∙ ap (λ (b : Bool). some p xs || b) (or-false (p v))

-- ---- one vehicle more
-- its figures are added to the sums where it has p
sums_step : (b : Bool) (s : Sums) (v : Vehicle)
    → ◌≡◌ {A = Sums} (record { count = s.count + cond b 1 0; vmass = s.vmass + cond b v.vmass 0; mmass = s.mmass + cond b v.mmass 0; axles = s.axles + cond b v.axles 0; length = s.length + cond b v.length 0 }) (cond b (sums_with s v) s)
unfolding sums_with
sums_step true s v = refl
sums_step false s v =
    λ i. record { count = add-zero s.count i; vmass = add-zero s.vmass i; mmass = add-zero s.mmass i; axles = add-zero s.axles i; length = add-zero s.length i }

sums_more : (p : Vehicle → Bool) (xs : List Vehicle) (v : Vehicle) → sums_of p (xs ++ (v ∷ [])) ≡ cond (p v) (sums_with (sums_of p xs) v) (sums_of p xs)
unfolding sums_of
sums_more p xs v =
    (λ i.
    record {
      count = sum_one (λ v. cond (p v) 1 0) xs v i;
      vmass = sum_one (λ v. cond (p v) v.vmass 0) xs v i;
      mmass = sum_one (λ v. cond (p v) v.mmass 0) xs v i;
      axles = sum_one (λ v. cond (p v) v.axles 0) xs v i;
      length = sum_one (λ v. cond (p v) v.length 0) xs v i;
    })
    ∙ sums_step (p v) (sums_of p xs) v

-- and so to those of its setting alone
setting_step : (s : Setting) (v : Vehicle) (a b c d : Sums)
    → set (a ∷ b ∷ c ∷ d ∷ []) (setting_number s) (sums_with (sums_at (a ∷ b ∷ c ∷ d ∷ []) (setting_number s)) v)
    ≡ cond (eqb (setting_number s) 0) (sums_with a v) a ∷ cond (eqb (setting_number s) 1) (sums_with b v) b ∷ cond (eqb (setting_number s) 2) (sums_with c v) c ∷ cond (eqb (setting_number s) 3) (sums_with d v) d ∷ []
setting_step Isolated v a b c d = refl
setting_step M v a b c d = refl
setting_step V v a b c d = refl
setting_step R v a b c d = refl

settings_more : (xs : List Vehicle) (v : Vehicle)
    → sums_by_setting (xs ++ (v ∷ [])) ≡ set (sums_by_setting xs) (setting_number v.setting) (sums_with (sums_at (sums_by_setting xs) (setting_number v.setting)) v)
settings_more xs v =
    (λ i. sums_more is_isolated xs v i ∷ sums_more is_m xs v i ∷ sums_more is_v xs v i ∷ sums_more is_r xs v i ∷ [])
    ∙ sym (setting_step v.setting v (sums_of is_isolated xs) (sums_of is_m xs) (sums_of is_v xs) (sums_of is_r xs))

gathered_one : (xs : List Vehicle) (v : Vehicle) → gathered (xs ++ (v ∷ [])) ≡ with_one (gathered xs) v
unfolding gathered with_one
gathered_one xs v =
    λ i.
    record {
      by_setting = settings_more xs v i;
      count = length-append xs (v ∷ []) i;
      mass = sum_one (λ (v : Vehicle). v.mass) xs v i;
      length = sum_one (λ (v : Vehicle). v.length) xs v i;
      axles = sum_one (λ (v : Vehicle). v.axles) xs v i;
      engines = sum_one (λ v. cond (is_hauled_engine v) 1 0) xs v i;
      dloads = sum_one (λ v. cond (has_d_load v) 1 0) xs v i;
      joined = sum_one (λ v. cond (is_joined v) 1 0) xs v i;
      trailing = (trailing_append is_isolated xs (v ∷ []) ∙ trail_step (is_isolated v) (trailing is_isolated xs)) i;
      longest =
          (longest_append is_isolated xs (v ∷ [])
          ∙ long_step (is_isolated v) (longest is_isolated xs) (trailing is_isolated xs) (trailing_longest is_isolated xs)) i;
      rule18 = some_one (λ v. is_wagon v && has_matrossow v && not (is_isolated v)) xs v i;
      slowest = slower i;
      first = sym (firsts_one 5 4 (λ v. setting_number v.setting) xs v) i;
      enginemmass = sum_one (λ v. cond (is_hauled_engine v && is_m v) v.mmass 0) xs v i;
      wagonvmass = sum_one (λ v. cond (is_wagon v && is_m v) v.vmass 0) xs v i;
      enginenotm = some_one (λ v. is_hauled_engine v && not (is_m v)) xs v i;
    }
  where
    slower : least 200 (λ (v : Vehicle). v.speed) (xs ++ (v ∷ [])) ≡ min (least 200 (λ (v : Vehicle). v.speed) xs) v.speed
    slower = omega (arith, least_append 200 (λ (v : Vehicle). v.speed) xs (v ∷ []), least_top 200 (λ (v : Vehicle). v.speed) xs)

-- ---- room for one more of at most 200 good hauled vehicles
module _ (xs : List Vehicle) (each : Every GoodHauled xs) (few : length xs ≤ 200) (v : Vehicle) (g : GoodHauled v) where
  sums_room : (p : Vehicle → Bool) → SumsRoom (sums_of p xs) v
  unfolding sums_of
  sums_room p =
      record {
        count = omega (arith, count_le p xs);
        vmass = omega (arith, sum_le GoodHauled (λ v. cond (p v) v.vmass 0) 2500 (λ v d. cond_le (p v) v.vmass 2500 (vmass_le v d)) xs each, vmass_le v g);
        mmass = omega (arith, sum_le GoodHauled (λ v. cond (p v) v.mmass 0) 2500 (λ v d. cond_le (p v) v.mmass 2500 (mmass_le v d)) xs each, mmass_le v g);
        axles = omega (arith, sum_le GoodHauled (λ v. cond (p v) v.axles 0) 24 (λ v d. cond_le (p v) v.axles 24 (axles_le v d)) xs each, axles_le v g);
        length = omega (arith, sum_le GoodHauled (λ v. cond (p v) v.length 0) 1000 (λ v d. cond_le (p v) v.length 1000 (length_le v d)) xs each, length_le v g);
      }

  setting_room : (s : Setting) → SumsRoom (sums_at (sums_by_setting xs) (setting_number s)) v
  setting_room Isolated = sums_room is_isolated
  setting_room M = sums_room is_m
  setting_room V = sums_room is_v
  setting_room R = sums_room is_r

  gathered_room : Room (gathered xs) v
  unfolding gathered
  gathered_room =
      record {
        sums = setting_room v.setting;
        count = omega arith;
        mass = omega (arith, sum_le GoodHauled (λ v. v.mass) 2500 mass_le xs each, mass_le v g);
        length = omega (arith, sum_le GoodHauled (λ v. v.length) 1000 length_le xs each, length_le v g);
        axles = omega (arith, sum_le GoodHauled (λ v. v.axles) 24 axles_le xs each, axles_le v g);
        engines = omega (arith, count_le is_hauled_engine xs);
        dloads = omega (arith, count_le has_d_load xs);
        joined = omega (arith, count_le is_joined xs);
        trailing = omega (arith, leading_le is_isolated (reverse xs), length-reverse xs);
        enginemmass = omega (arith, sum_le GoodHauled (λ v. cond (is_hauled_engine v && is_m v) v.mmass 0) 2500 engine_le xs each, engine_le v g);
        wagonvmass = omega (arith, sum_le GoodHauled (λ v. cond (is_wagon v && is_m v) v.vmass 0) 2500 wagon_le xs each, wagon_le v g);
      }

-- ---- a turn of the loop over the records
module _ (bs : List ℕ) (i : ℕ) (v : Vehicle) (t : Turn bs i v) where
  vehicles_more : map vehicle (records (i + 1) bs) ≡ map vehicle (records i bs) ++ (v ∷ [])
  vehicles_more =
      ap (λ (n : ℕ). map vehicle (records n bs)) (add-one i)
      ∙ vehicles_snoc i bs
      ∙ ap (λ (w : Vehicle). map vehicle (records i bs) ++ (w ∷ [])) (sym t.says)

  pub each_more : Every GoodHauled (map vehicle (records i bs)) → Every GoodHauled (map vehicle (records (i + 1) bs))
  each_more each = subst (Every GoodHauled) (sym vehicles_more) (every_append GoodHauled (map vehicle (records i bs)) (v ∷ []) each (t.hauled, tt))

  pub gathered_more : (a b : Gathered) → a ≡ gathered (map vehicle (records i bs)) → b ≡ with_one a v → b ≡ gathered (map vehicle (records (i + 1) bs))
  gathered_more a b e f =
      f ∙ ap (λ (g : Gathered). with_one g v) e ∙ sym (gathered_one (map vehicle (records i bs)) v) ∙ ap gathered (sym vehicles_more)

  pub room : (a : Gathered) → Every GoodHauled (map vehicle (records i bs)) → i ≤ 200 → a ≡ gathered (map vehicle (records i bs)) → Room a v
  room a each few e =
      subst (λ (g : Gathered). Room g v) (sym e) (gathered_room (map vehicle (records i bs)) each (omega (arith, length_vehicles i bs)) v t.hauled)
