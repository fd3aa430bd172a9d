-- The vehicle that holds the speed: what the definition gives is a record of the list, least, and first at a tie; and one record more. Assumes nothing.
use Prim.Native.Nat.{ℕ, zero, suc, ◌+◌, ◌-◌, ◌≤◌, ◌<◌}
use native.Mathlib.Nat.{not-suc-le-zero, le_of_suc-le-suc}
use native.Mathlib.Omega.{arith}
use mathlib.Core.Path.{◌≡◌, refl, sym, ap, ap₂, ◌∙◌, subst}
use mathlib.Core.Bool.{Bool, true, false, ◌&&◌, cond, and-false}
use mathlib.Core.List.{List, [], ◌∷◌, ◌++◌}
use mathlib.Core.Logic.{◌⊎◌, inl, inr}
use borrow.Author.Tests.{ltb-true, ltb-false, le-leb, lt-leb}
use lib.Dec.{ltb, leb}
use lib.ListN.{length, get_or, length-append, get_or-append}
use lib.Seq.{get_or-append-add}
use native.Mathlib.Decide.{dec_le, dec_lt}
use Rattle.lists.specs.Words.{all}
use Rattle.std.specs.Prelude.{Some, None}
use Rattle.std.specs.List.{fold, reduce}
use Rattle.std.specs.Simd.{first_chunks}
use Rattle.record.specs.Records.{record_count, records_of}
use Rattle.record.proofs.Records.{chunks_records, record_at, length_records, records_at, record_length}
use Rattle.lists.proofs.Lists.{all_not, all_from, length_zero}
use Rattle.speed.specs.Speed.{first_with, byte20, slower, slowest_of, whole_good, holds_the_speed, Holds}

-- ---- the first that has p
first_at : (p : List ℕ → Bool) (rs : List (List ℕ)) (i : ℕ) → i < length rs → p (get_or rs i []) ≡ true → ((j : ℕ) → j < i → p (get_or rs j []) ≡ false)
    → first_with p rs ≡ get_or rs i []
unfolding first_with
first_at p [] i l e f = absurd (not-suc-le-zero l)
first_at p (r ∷ rs) zero l e f = rw e
first_at p (r ∷ rs) (suc i) l e f = rw (f 0 (omega arith)) (first_at p rs i (le_of_suc-le-suc l) e (λ j k. f (suc j) (omega arith)))

-- whatever holds the speed of the records is what the definition gives
pub holds_is : (rs : List (List ℕ)) (r : List ℕ) → Holds rs r → slowest_of rs ≡ r
unfolding slowest_of
holds_is rs r h =
    first_at (λ q. all (λ other. leb (byte20 q) (byte20 other)) rs) rs h.place h.within
    (subst (λ (q : List ℕ). all (λ other. leb (byte20 q) (byte20 other)) rs ≡ true) h.there
    (all_from (λ other. leb (byte20 r) (byte20 other)) [] rs (λ j l. le-leb (byte20 r) (byte20 (get_or rs j [])) (h.least j l))))
    (λ j l.
    all_not (λ other. leb (byte20 (get_or rs j [])) (byte20 other)) rs h.place [] h.within
    (lt-leb (byte20 (get_or rs j [])) (byte20 (get_or rs h.place [])) (subst (λ (q : List ℕ). byte20 q < byte20 (get_or rs j [])) h.there (h.first j l))))
    ∙ sym h.there

-- ---- going through the records one by one
-- a record in front that is faster
faster_in_front : (b r x : List ℕ) (rs : List (List ℕ)) → byte20 r < byte20 b → Holds (r ∷ rs) x → Holds (b ∷ r ∷ rs) x
faster_in_front b r x rs h k =
    record {
      place = suc k.place;
      within = omega arith;
      there = k.there;
      least = λ j. elim j as (λ i. i < length (b ∷ r ∷ rs) → byte20 x ≤ byte20 (get_or (b ∷ r ∷ rs) i [])) [ zero ↦ λ l. omega (arith, k.least 0 (omega arith)) | suc i ↦ λ l. k.least i (le_of_suc-le-suc l) ];
      first = λ j. elim j as (λ i. i < suc k.place → byte20 x < byte20 (get_or (b ∷ r ∷ rs) i [])) [ zero ↦ λ l. omega (arith, k.least 0 (omega arith)) | suc i ↦ λ l. k.first i (le_of_suc-le-suc l) ];
    }

-- a record in the second place that is no slower
module _ (b r x : List ℕ) (rs : List (List ℕ)) (h : byte20 b ≤ byte20 r) (k : Holds (b ∷ rs) x) where
  skip_least : (j : ℕ) → j < length (b ∷ r ∷ rs) → byte20 x ≤ byte20 (get_or (b ∷ r ∷ rs) j [])
  skip_least zero l = k.least 0 (omega arith)
  skip_least (suc zero) l = omega (arith, k.least 0 (omega arith))
  skip_least (suc (suc i)) l = k.least (suc i) (le_of_suc-le-suc l)

  skip_first : (p : ℕ) → suc p ≡ k.place → (j : ℕ) → j < suc (suc p) → byte20 x < byte20 (get_or (b ∷ r ∷ rs) j [])
  skip_first p e zero l = k.first 0 (omega arith)
  skip_first p e (suc zero) l = omega (arith, k.first 0 (omega arith))
  skip_first p e (suc (suc i)) l = k.first (suc i) (omega arith)

  skip : (p : ℕ) → p ≡ k.place → Holds (b ∷ r ∷ rs) x
  skip zero e =
      record {
        place = 0;
        within = omega arith;
        there = k.there ∙ ap (λ (i : ℕ). get_or (b ∷ rs) i []) (sym e);
        least = skip_least;
        first = λ j l. absurd (not-suc-le-zero l);
      }
  skip (suc p) e =
      record {
        place = suc (suc p);
        within = omega (arith, k.within);
        there = k.there ∙ ap (λ (i : ℕ). get_or (b ∷ rs) i []) (sym e);
        least = skip_least;
        first = skip_first p e;
      }

through_holds : (b : List ℕ) (rs : List (List ℕ)) → Holds (b ∷ rs) (fold slower b rs)
through_holds b [] =
    record {
      place = 0;
      within = omega arith;
      there = refl;
      least = λ j. elim j as (λ i. i < length (b ∷ []) → byte20 (fold slower b []) ≤ byte20 (get_or (b ∷ []) i [])) [ zero ↦ λ l. omega arith | suc i ↦ λ l. absurd (omega arith) ];
      first = λ j l. absurd (not-suc-le-zero l);
    }
through_holds b (r ∷ rs) = go (ltb (byte20 r) (byte20 b)) refl (through_holds r rs) (through_holds b rs)
  where
    go : (t : Bool) → ltb (byte20 r) (byte20 b) ≡ t → Holds (r ∷ rs) (fold slower r rs) → Holds (b ∷ rs) (fold slower b rs) → Holds (b ∷ r ∷ rs) (fold slower (cond (ltb (byte20 r) (byte20 b)) r b) rs)
    go true e h k = rw e (faster_in_front b r (fold slower r rs) rs (ltb-true (byte20 r) (byte20 b) e) h)
    go false e h k = rw e (skip b r (fold slower b rs) rs (ltb-false (byte20 r) (byte20 b) e) k k.place refl)

slowest_through : (r : List ℕ) (rs : List (List ℕ)) → slowest_of (r ∷ rs) ≡ fold slower r rs
slowest_through r rs = holds_is (r ∷ rs) (fold slower r rs) (through_holds r rs)

-- of records, what the definition gives holds their speed
list_holds : (rs : List (List ℕ)) → 0 < length rs → Holds rs (slowest_of rs)
list_holds [] h = absurd (not-suc-le-zero h)
list_holds (r ∷ rs) h = subst (Holds (r ∷ rs)) (sym (slowest_through r rs)) (through_holds r rs)

-- what code makes of the records, one after the other
pub some_slowest : (rs : List (List ℕ)) (r : List ℕ) → Some r ≡ reduce slower rs → r ≡ slowest_of rs
some_slowest [] r e = cc
some_slowest (x ∷ rs) r e = let f : r ≡ fold slower x rs = cc in f ∙ sym (slowest_through x rs)

pub none_slowest : (rs : List (List ℕ)) → None ≡ reduce slower rs → [] ≡ slowest_of rs
unfolding slowest_of first_with
none_slowest [] e = refl
none_slowest (x ∷ rs) e = cc

-- of what code cuts into chunks, which are the records
pub chunked : (front back : List ℕ) {ahead behind : List (List ℕ)} → ahead ≡ first_chunks 24 (record_count front) front → behind ≡ first_chunks 24 (record_count back) back
    → reduce slower (ahead ++ behind) ≡ reduce slower (records_of front ++ records_of back)
chunked front back a b = ap₂ (λ (x y : List (List ℕ)). reduce slower (x ++ y)) (a ∙ chunks_records (record_count front) front) (b ∙ chunks_records (record_count back) back)

-- ---- the records of two portions in order
module _ (front back : List ℕ) (k : ℕ) where
  pub record_front : k < record_count front → record_at front k ≡ get_or (records_of front ++ records_of back) k []
  record_front h =
      sym
      (get_or-append (records_of front) (records_of back) [] k (omega (arith, length_records (record_count front) front))
      ∙ records_at (record_count front) front k h)

  pub record_back : record_count front ≤ k → k < record_count front + record_count back → record_at back (k - record_count front) ≡ get_or (records_of front ++ records_of back) k []
  record_back h l =
      let e : length (records_of front) + (k - record_count front) ≡ k = omega (arith, length_records (record_count front) front) in
      sym
      (ap (λ (j : ℕ). get_or (records_of front ++ records_of back) j []) (sym e)
      ∙ get_or-append-add (records_of front) (records_of back) (k - record_count front) []
      ∙ records_at (record_count back) back (k - record_count front) (omega arith))

  pub record_24 : k < record_count front + record_count back → length (get_or (records_of front ++ records_of back) k []) ≡ 24
  record_24 l = go (dec_lt k (record_count front))
    where
      go : Dec (k < record_count front) → length (get_or (records_of front ++ records_of back) k []) ≡ 24
      go (yes h) = ap length (sym (record_front h)) ∙ record_length front k (omega arith)
      go (no h) = ap length (sym (record_back (omega arith) l)) ∙ record_length back (k - record_count front) (omega arith)

pub length_two : (front back : List ℕ) → length (records_of front ++ records_of back) ≡ record_count front + record_count back
length_two front back =
    omega (arith, length-append (records_of front) (records_of back), length_records (record_count front) front, length_records (record_count back) back)

-- ---- what two portions are answered
module _ (front back : List ℕ) where
  pub speed_bad : (whole_good front && whole_good back) ≡ false → [] ≡ holds_the_speed front back
  unfolding holds_the_speed
  speed_bad e = simp e

  pub speed_many : 200 < record_count front + record_count back → [] ≡ holds_the_speed front back
  unfolding holds_the_speed
  speed_many h = simp (lt-leb (record_count front + record_count back) 200 h, and-false (whole_good front && whole_good back))

  module _ (good : (whole_good front && whole_good back) ≡ true) where
    pub speed_found : record_count front + record_count back ≤ 200 → slowest_of (records_of front ++ records_of back) ≡ holds_the_speed front back
    unfolding holds_the_speed
    speed_found h = simp (good, le-leb (record_count front + record_count back) 200 h)

    pub speed_empty : record_count front + record_count back ≡ 0 → [] ≡ holds_the_speed front back
    unfolding slowest_of first_with
    speed_empty h =
        ap slowest_of (sym (length_zero (records_of front ++ records_of back) (length_two front back ∙ h))) ∙ speed_found (omega arith)

pub two_hold : (front back : List ℕ) → (whole_good front && whole_good back) ≡ true → 0 < record_count front + record_count back → record_count front + record_count back ≤ 200
    → Holds (records_of front ++ records_of back) (holds_the_speed front back)
two_hold front back good some few =
    subst (Holds (records_of front ++ records_of back)) (speed_found front back good few)
    (list_holds (records_of front ++ records_of back) (omega (arith, length_two front back)))

pub two_24 : (front back : List ℕ) → (whole_good front && whole_good back) ≡ true → 0 < record_count front + record_count back → record_count front + record_count back ≤ 200
    → length (holds_the_speed front back) ≡ 24
two_24 front back good some few =
    let h = two_hold front back good some few in
    ap length h.there ∙ record_24 front back h.place (omega (arith, h.within, length_two front back))

-- a record's 24 bytes, or none
pub vehicle_or_none : (front back : List ℕ) → (length (holds_the_speed front back) ≡ 24) ⊎ (holds_the_speed front back ≡ [])
vehicle_or_none front back = by_test (whole_good front && whole_good back) refl
  where
    n : ℕ
    n = record_count front + record_count back

    by_count : (whole_good front && whole_good back) ≡ true → Dec (n ≤ 200) → Dec (0 < n) → (length (holds_the_speed front back) ≡ 24) ⊎ (holds_the_speed front back ≡ [])
    by_count good (yes few) (yes some) = inl (two_24 front back good some few)
    by_count good (yes few) (no none) = inr (sym (speed_empty front back good (omega arith)))
    by_count good (no many) d = inr (sym (speed_many front back (omega arith)))

    by_test : (b : Bool) → (whole_good front && whole_good back) ≡ b → (length (holds_the_speed front back) ≡ 24) ⊎ (holds_the_speed front back ≡ [])
    by_test true good = by_count good (dec_le n 200) (dec_lt 0 n)
    by_test false bad = inr (sym (speed_bad front back bad))
