-- Laws of the working engines' figures. Assumes nothing.
use Prim.Native.Nat.{ℕ, ◌+◌, ◌*◌, ◌%◌, ◌≤◌, min}
use native.Mathlib.Omega.{arith}
use mathlib.Core.Path.{◌≡◌, refl, sym, ap, ap₂, ◌∙◌, subst}
use mathlib.Core.Bool.{Bool, true, false, not, ◌&&◌, cond}
use mathlib.Core.List.{List, [], ◌∷◌, ◌++◌, map}
use lib.ListN.{length, take, drop, length-append, length-drop, drop_of_length-le}
use lib.Seq.{take_all}
use Rattle.lists.specs.Words.{all}
use Rattle.record.specs.Records.{records, record_count}
use borrow.Author.Tests.{eq-eqb, ne_eqb, eqb-true}
use native.Mathlib.Decide.{ℕ_discrete, dec_le}
use lib.Dec.{eqb}
use Rattle.record.specs.Vehicles.{setting_number, good, vehicle, vehicles, reading, is_isolated, is_m, is_v, is_r, is_joined, has_d_load}
use Rattle.record.specs.declared.vehicle.Vehicle.{Vehicle}
use Rattle.std.specs.Prelude.{Some, None}
use Rattle.lists.proofs.Lists.{both}
use Rattle.record.proofs.Vehicles.{at_most, reading_good, reading_bad, length_bad}
use Rattle.lists.proofs.Figures.{sum_append, count_append, some_append, least_append, cond_le}
use Rattle.facts.specs.Engines.{engines_of, taken, engines_in, GoodEngines, both_of}
use Rattle.facts.specs.declared.engine.Engines.{Engines}

pub engines_append : (xs ys : List Vehicle) → engines_of (xs ++ ys) ≡ both_of (engines_of xs) (engines_of ys)
unfolding engines_of both_of
engines_append xs ys =
    λ i.
    record {
      count = length-append xs ys i;
      mass = sum_append (λ v. v.mass) xs ys i;
      length = sum_append (λ v. v.length) xs ys i;
      axles = sum_append (λ v. v.axles) xs ys i;
      vmass = sum_append (λ v. cond (is_v v) v.vmass 0) xs ys i;
      mmass = sum_append (λ v. cond (is_m v) v.mmass 0) xs ys i;
      vaxles = sum_append (λ v. cond (is_v v) v.axles 0) xs ys i;
      notm = some_append (λ v. not (is_m v)) xs ys i;
      setr = some_append is_r xs ys i;
      unjoined = some_append (λ v. not (is_joined v)) xs ys i;
      slowest = least_append 200 (λ v. v.speed) xs ys i;
      dloads = count_append has_d_load xs ys i;
      isolated = count_append is_isolated xs ys i;
    }

-- the figures of at most n engines
pub record AtMost (n : ℕ) (e : Engines) : Type 0 where
  pub count : e.count ≤ n
  pub mass : e.mass ≤ 2500 * n
  pub length : e.length ≤ 1000 * n
  pub axles : e.axles ≤ 24 * n
  pub braked : e.vmass + e.mmass ≤ 2500 * n
  pub vaxles : e.vaxles ≤ 24 * n
  pub dloads : e.dloads ≤ n
  pub isolated : e.isolated ≤ n
  pub slowest : e.slowest ≤ 200

-- a vehicle is set to V or to M, and not to both
one_setting : (s v m : ℕ) → v ≤ 2500 → m ≤ 2500 → cond (eqb s 2) v 0 + cond (eqb s 1) m 0 ≤ 2500
one_setting s v m p q = go (ℕ_discrete s 2)
  where
    go : Dec (s ≡ 2) → cond (eqb s 2) v 0 + cond (eqb s 1) m 0 ≤ 2500
    go (yes e) = rw (eq-eqb s 2 e, ne_eqb s 1 (λ z. omega arith)) (omega arith)
    go (no n) = rw (ne_eqb s 2 n) (omega (arith, cond_le (eqb s 1) m 2500 q))

-- a field of a good record is at most its table's high end
small_vehicle : (r : List ℕ) → good r ≡ true → AtMost 1 (engines_of (vehicle r ∷ []))
unfolding engines_of vehicle
small_vehicle r g =
    let v = vehicle r in
    record {
      count = omega arith;
      mass = omega (arith, at_most r g 1 (omega arith));
      length = omega (arith, at_most r g 4 (omega arith));
      axles = omega (arith, at_most r g 5 (omega arith));
      braked = omega (arith, one_setting (setting_number v.setting) v.vmass v.mmass (at_most r g 2 (omega arith)) (at_most r g 3 (omega arith)));
      vaxles = omega (arith, cond_le (is_v v) v.axles 24 (at_most r g 5 (omega arith)));
      dloads = omega (arith, cond_le (has_d_load v) 1 1 (omega arith));
      isolated = omega (arith, cond_le (is_isolated v) 1 1 (omega arith));
      slowest = omega arith;
    }

small_none : AtMost 1 (engines_of [])
unfolding engines_of
small_none = omega arith

pub small_taken : (r : List ℕ) → AtMost 1 (engines_of (taken (reading r)))
unfolding reading
small_taken r = go (good r) refl
  where
    go : (b : Bool) → good r ≡ b → AtMost 1 (engines_of (taken (cond b (Some (vehicle r)) None)))
    go true e = small_vehicle r e
    go false e = small_none

pub small_both : (a b : Engines) → AtMost 1 a → AtMost 1 b → AtMost 2 (both_of a b)
unfolding both_of
small_both a b p q = omega (arith, p, q)

-- ---- one or two good engines, record by record
reads_good : (r : List ℕ) → good r ≡ true → taken (reading r) ≡ vehicle r ∷ []
reads_good r g = ap taken (sym (reading_good r g))

module _ (bs : List ℕ) (e : GoodEngines bs) where
  one_record : length bs ≡ 24 → engines_in bs ≡ vehicles bs
  unfolding records all engines_in
  one_record l =
      let n : record_count bs ≡ 1 = omega arith in
      let same = ap (λ (k : ℕ). records k bs) n in
      let less : length bs ≤ 24 = omega arith in
      let none : drop 24 bs ≡ [] = drop_of_length-le bs less in
      let g : good (take 24 bs) ≡ true = (both (good (take 24 bs)) true (sym (ap (all good) same) ∙ e.each)).0 in
      ap₂ ◌++◌ (reads_good (take 24 bs) g) (ap (λ (r : List ℕ). taken (reading r)) none ∙ ap taken (sym (reading_bad [] (length_bad [] (λ z. omega arith)))))
      ∙ sym (ap (map vehicle) same)

  two_records : length bs ≡ 48 → engines_in bs ≡ vehicles bs
  unfolding records all engines_in
  two_records l =
      let n : record_count bs ≡ 2 = omega arith in
      let same = ap (λ (k : ℕ). records k bs) n in
      let last : take 24 (drop 24 bs) ≡ drop 24 bs = take_all 24 (drop 24 bs) (omega (arith, length-drop 24 bs)) in
      let t = both (good (take 24 bs)) (good (take 24 (drop 24 bs)) && true) (sym (ap (all good) same) ∙ e.each) in
      let g = (both (good (take 24 (drop 24 bs))) true t.1).0 in
      ap₂ ◌++◌ (reads_good (take 24 bs) t.0) (ap (λ (r : List ℕ). taken (reading r)) (sym last) ∙ reads_good (take 24 (drop 24 bs)) g)
      ∙ sym (ap (map vehicle) same)

  pub engines_taken : engines_in bs ≡ vehicles bs
  engines_taken = go (ℕ_discrete (length bs) 24)
    where
      go : Dec (length bs ≡ 24) → engines_in bs ≡ vehicles bs
      go (yes l) = one_record l
      go (no l) = two_records (omega (arith, e.some, e.few, eqb-true (length bs % 24) 0 e.whole))

pub engines_at_most : (bs : List ℕ) → AtMost 2 (engines_of (engines_in bs))
unfolding engines_in
engines_at_most bs =
    subst (AtMost 2) (sym (engines_append (taken (reading (take 24 bs))) (taken (reading (drop 24 bs)))))
    (small_both _ _ (small_taken (take 24 bs)) (small_taken (drop 24 bs)))

-- the two records, cut by the lesser of 24 and the length
module _ (bs : List ℕ) (n : ℕ) (cut : n ≡ min 24 (length bs)) where
  pub first_cut : take n bs ≡ take 24 bs
  first_cut = go (dec_le 24 (length bs))
    where
      go : Dec (24 ≤ length bs) → take n bs ≡ take 24 bs
      go (yes h) = let e : n ≡ 24 = omega arith in ap (λ (k : ℕ). take k bs) e
      go (no h) = take_all n bs (omega arith) ∙ sym (take_all 24 bs (omega arith))

  pub rest_cut : drop n bs ≡ drop 24 bs
  rest_cut = go (dec_le 24 (length bs))
    where
      go : Dec (24 ≤ length bs) → drop n bs ≡ drop 24 bs
      go (yes h) = let e : n ≡ 24 = omega arith in ap (λ (k : ℕ). drop k bs) e
      go (no h) = let p : length bs ≤ n = omega arith in let q : length bs ≤ 24 = omega arith in drop_of_length-le bs p ∙ sym (drop_of_length-le bs q)
