-- A whole train parted into its working engines and what they haul: what it is answered, and its facts. Assumes nothing.
use Prim.Native.Nat.{ℕ, zero, suc, ◌*◌, ◌%◌, ◌≤◌}
use native.Mathlib.Omega.{arith}
use mathlib.Core.Path.{◌≡◌, refl, sym, ap, ◌∙◌, subst}
use mathlib.Core.Bool.{Bool, true, false, ◌&&◌, not, cond, false≢true}
use mathlib.Core.List.{List, [], ◌∷◌, ◌++◌}
use borrow.Author.Tests.{eq-eqb, ne_eqb, ltb-false, lt-ltb, not-false}
use lib.Dec.{eqb, ltb, eqb-suc-zero}
use lib.ListN.{length, take, drop, length-drop, take-append-drop}
use lib.Seq.{take_at, drop_at, length-take-le}
use Rattle.std.specs.Prelude.{Result, Ok, Err, is_ok, ⊤}
use Rattle.std.specs.Result.{result_and}
use Rattle.lists.specs.Words.{all, leading, Every}
use Rattle.lists.specs.Refusals.{answered}
use Rattle.lists.specs.Figures.{some, first_is}
use Rattle.lists.proofs.Lists.{both, all_append, every_map, leading_each}
use Rattle.lists.proofs.Figures.{leading_le, first_leading, none_first}
use Rattle.lists.proofs.Refusals.{none_of, answered_append}
use Rattle.record.specs.Records.{record_count, records_of}
use Rattle.record.specs.Vehicles.{good, vehicles, is_working}
use Rattle.record.specs.declared.vehicle.Vehicle.{Vehicle}
use Rattle.record.proofs.Records.{records_append}
use Rattle.record.proofs.Vehicles.{length_vehicles, vehicles_append}
use Rattle.account.specs.Accounts.{account_of}
use Rattle.account.specs.Ceilings.{Within}
use Rattle.account.specs.Portions.{accounted}
use Rattle.account.specs.Groupings.{GoodHauled, Hauled, GoodPortion}
use Rattle.account.specs.declared.Account.{Account}
use Rattle.account.proofs.Demands.{portion_done_exactly, portion_of, within_ceilings, hauled_each, hauled_not_working}
use Rattle.facts.specs.Engines.{GoodEngines}
use Rattle.facts.specs.Facts.{working_of, hauled_of, facts_of, facts_beside, Working}
use Rattle.facts.proofs.Demands.{facts_agree}
use Rattle.judge.specs.Answers.{bad_field, count_refusals, record_refusals, size, train_shape}
use Rattle.judge.specs.Judging.{train_judged, GoodRecords}
use Rattle.judge.specs.declared.Refusal.{Refusal}
use Rattle.judge.specs.declared.Refusal.TheVariants.{BadField, NotWorking, WorkingBehind}
use Rattle.judge.proofs.Answers.{passes, and_assoc}
use Rattle.judge.proofs.Engines.{whole_some}

zero_first : (n : ℕ) → eqb n 0 ≡ not (ltb 0 n)
zero_first zero = refl
zero_first (suc n) = eqb-suc-zero n ∙ ap not (sym (lt-ltb 0 (suc n) (omega arith)))

-- the first that does not pass, where all behind pass
first_in_front : {A : Type 0} (p : A → Bool) (refused : ℕ → Refusal) (xs ys : List A) → all p ys ≡ true
    → cond (not (all p xs)) (Err (refused (leading p xs))) (Ok tt) ≡ cond {A = Result ⊤ Refusal} (not (all p (xs ++ ys))) (Err (refused (leading p (xs ++ ys)))) (Ok tt)
unfolding all
first_in_front p refused [] ys e = rw e
first_in_front {A} p refused (x ∷ xs) ys e = go (p x) (first_in_front p (λ k. refused (suc k)) xs ys e)
  where
    go : (b : Bool)
        → cond (not (all p xs)) (Err (refused (suc (leading p xs)))) (Ok tt) ≡ cond {A = Result ⊤ Refusal} (not (all p (xs ++ ys))) (Err (refused (suc (leading p (xs ++ ys))))) (Ok tt)
        → cond (not (b && all p xs)) (Err (refused (cond b (suc (leading p xs)) 0))) (Ok tt) ≡ cond {A = Result ⊤ Refusal} (not (b && all p (xs ++ ys))) (Err (refused (cond b (suc (leading p (xs ++ ys))) 0))) (Ok tt)
    go true h = h
    go false h = refl

-- ---- the two parts of a train's bytes, n being how many working engines stand in front
module _ (bs : List ℕ) (n : ℕ) (count : n ≡ leading is_working (vehicles bs)) where
  abbrev front : List ℕ
  front = take (24 * n) bs

  abbrev rear : List ℕ
  rear = drop (24 * n) bs

  pub parted_le : 24 * n ≤ length bs
  parted_le = omega (arith, leading_le is_working (vehicles bs), length_vehicles (record_count bs) bs)

  front_long : length front ≡ 24 * n
  front_long = length-take-le (24 * n) bs parted_le

  front_whole : length front % 24 ≡ 0
  front_whole = omega (arith, front_long)

  records_parted : records_of bs ≡ records_of front ++ records_of rear
  records_parted = ap records_of (sym (take-append-drop (24 * n) bs)) ∙ records_append front rear front_whole

  -- 3 of the train, by its engines alone where what they haul is good
  pub front_fields : all good (records_of rear) ≡ true → answered (bad_field front ∷ []) ≡ answered (bad_field bs ∷ [])
  front_fields e =
      first_in_front good BadField (records_of front) (records_of rear) e
      ∙ ap (λ (rs : List (List ℕ)). cond (not (all good rs)) (Err (BadField (leading good rs))) (Ok tt)) (sym records_parted)

  -- where the rest has an account, it is a good portion and that is its vehicles'
  pub portion_at : is_ok (accounted rear) ≡ true → GoodPortion rear
  portion_at = (portion_done_exactly rear).0

  pub account_at : (a : Account) → accounted rear ≡ Ok a → a ≡ account_of (vehicles rear)
  account_at a e = let h = (portion_done_exactly rear).1 (portion_at (ap is_ok e)) in cc

  pub none_in_front : eqb n 0 ≡ not (first_is is_working (vehicles bs))
  none_in_front = zero_first n ∙ ap not (ap (ltb 0) count ∙ sym (first_leading is_working (vehicles bs)))

  -- 11
  pub none_works : n ≡ 0 → answered (train_shape (vehicles bs)) ≡ Err NotWorking
  none_works z = rw (sym none_in_front ∙ eq-eqb n 0 z)

  -- ---- of good records
  module _ (g : GoodRecords bs) where
    parted : vehicles bs ≡ vehicles front ++ vehicles rear
    parted = ap vehicles (sym (take-append-drop (24 * n) bs)) ∙ vehicles_append front rear front_whole

    front_count : length (vehicles front) ≡ n
    front_count = omega (arith, length_vehicles (record_count front) front, front_long)

    working_is : working_of (vehicles bs) ≡ vehicles front
    working_is = ap (λ (k : ℕ). take k (vehicles bs)) (sym count) ∙ ap (take n) parted ∙ take_at (vehicles front) (vehicles rear) n front_count

    pub hauled_is : hauled_of (vehicles bs) ≡ vehicles rear
    hauled_is = ap (λ (k : ℕ). drop k (vehicles bs)) (sym count) ∙ ap (drop n) parted ∙ drop_at (vehicles front) (vehicles rear) n front_count

    parts_good : (all good (records_of front) ≡ true) × (all good (records_of rear) ≡ true)
    parts_good = both (all good (records_of front)) (all good (records_of rear)) (sym (ap (all good) records_parted ∙ all_append good (records_of front) (records_of rear)) ∙ g.each)

    -- the rest is a good portion where no working engine is in it
    pub good_rear : some is_working (vehicles rear) ≡ false → GoodPortion rear
    good_rear none =
        record {
          whole = eq-eqb (length rear % 24) 0 (omega (arith, length-drop (24 * n) bs, parted_le, g.whole));
          few = omega (arith, length-drop (24 * n) bs, g.few);
          each = parts_good.1;
          hauled = every_map GoodHauled Hauled (λ v h. h.hauled) (vehicles rear) (hauled_each (records_of rear) parts_good.1 none);
        }

    -- so where it is refused there is one
    pub refused_rear : is_ok (accounted rear) ≡ false → some is_working (vehicles rear) ≡ true
    refused_rear refused = go (some is_working (vehicles rear)) refl
      where
        go : (b : Bool) → some is_working (vehicles rear) ≡ b → some is_working (vehicles rear) ≡ true
        go true e = e
        go false e = absurd (false≢true (sym refused ∙ ap is_ok ((portion_done_exactly rear).1 (good_rear e))))

    -- what is answered behind 11, by whether the rest has an account
    module _ (some-works : n ≡ 0 → ⊥) where
      shape_is : {b : Bool} {k : ℕ} → some is_working (vehicles rear) ≡ b → length (vehicles rear) ≡ k → answered (train_shape (vehicles bs)) ≡ cond b (Err WorkingBehind) (answered (size n k))
      shape_is e long =
          let first = sym none_in_front ∙ ne_eqb n 0 some-works in
          let behind = ap (some is_working) hauled_is ∙ e in
          let engines = ap length working_is ∙ front_count in
          let hauled = ap length hauled_is ∙ long in
          rw (first, behind, engines, hauled)

      -- 12
      pub works_behind : some is_working (vehicles rear) ≡ true → answered (train_shape (vehicles bs)) ≡ Err WorkingBehind
      works_behind e = shape_is e refl

      module _ (p : GoodPortion rear) where
        none_behind : some is_working (vehicles rear) ≡ false
        none_behind = hauled_not_working (vehicles rear) p.hauled

        pub sizes_left : answered (train_shape (vehicles bs)) ≡ answered (size n (account_of (vehicles rear)).count)
        unfolding account_of
        sizes_left = shape_is none_behind refl

        module _ (sized : is_ok (answered (size n (account_of (vehicles rear)).count)) ≡ true) where
          pub front_good : GoodEngines front
          front_good =
              record {
                whole = eq-eqb (length front % 24) 0 front_whole;
                some = omega (arith, front_long, some-works);
                few = omega (arith, front_long, ltb-false 2 n (none_of (size n (account_of (vehicles rear)).count) sized).0);
                each = parts_good.0;
              }

        pub rear_within : Within (account_of (vehicles rear))
        rear_within = within_ceilings (vehicles rear) (portion_of rear p)

        pub facts_are : facts_beside (vehicles front) (account_of (vehicles rear)) ≡ facts_of (vehicles bs)
        facts_are =
            sym (facts_agree (vehicles front) (vehicles rear) (subst (λ (xs : List Vehicle). Every Working xs) working_is (leading_each is_working (vehicles bs))) (none_first is_working (vehicles rear) none_behind))
            ∙ ap facts_of (sym parted)

-- ---- the groups of refusals, as the code comes to them: 1 and 2, 3, what is lent, and 11 to 14
module _ (bs : List ℕ) where
  pub records_good : is_ok (answered (record_refusals bs)) ≡ true → GoodRecords bs
  records_good done =
      let t = none_of (record_refusals bs) done in
      record { whole = (whole_some bs t.0).0; few = ltb-false 200 (record_count bs) t.1.0; each = not-false (all good (records_of bs)) t.1.1.0 }

  records_groups : answered (record_refusals bs) ≡ result_and (answered (count_refusals bs)) (answered (bad_field bs ∷ []))
  records_groups = answered_append (count_refusals bs) (bad_field bs ∷ [])

  pub counted_good : {x y : ⊤} → answered (count_refusals bs) ≡ Ok x → answered (bad_field bs ∷ []) ≡ Ok y → GoodRecords bs
  counted_good a b = records_good (ap is_ok (records_groups ∙ passes _ a ∙ b))

  pub train_steps : (lent : Result ⊤ Refusal)
      → train_judged bs lent ≡ result_and (answered (count_refusals bs)) (result_and (answered (bad_field bs ∷ [])) (result_and lent (result_and (answered (train_shape (vehicles bs))) (Ok (facts_of (vehicles bs))))))
  unfolding train_judged
  train_steps lent =
      let rest = result_and lent (result_and (answered (train_shape (vehicles bs))) (Ok (facts_of (vehicles bs)))) in
      ap (λ (a : Result ⊤ Refusal). result_and a rest) records_groups ∙ and_assoc (answered (count_refusals bs)) (answered (bad_field bs ∷ [])) rest

  -- where 1, 2, 3 and what is lent are passed
  pub train_late : {x y z : ⊤} (lent : Result ⊤ Refusal) → answered (count_refusals bs) ≡ Ok x → answered (bad_field bs ∷ []) ≡ Ok y → lent ≡ Ok z
      → train_judged bs lent ≡ result_and (answered (train_shape (vehicles bs))) (Ok (facts_of (vehicles bs)))
  train_late lent a b d = train_steps lent ∙ passes _ a ∙ passes _ b ∙ passes _ d
