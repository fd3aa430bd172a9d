-- Engines lent apart, with an account: what is judged of them, from their groups of refusals. Assumes nothing.
use Prim.Native.Nat.{ℕ, ◌%◌, ◌≤◌, ◌<◌}
use native.Mathlib.Omega.{arith}
use mathlib.Core.Path.{◌≡◌, sym, ap, ◌∙◌}
use mathlib.Core.Bool.{Bool, true, false, not, ◌||◌, cond}
use mathlib.Core.List.{List}
use borrow.Author.Tests.{eq-eqb, eqb-true, eqb-false, lt-ltb, le-ltb, ltb-false, not-false}
use lib.Dec.{eqb, ltb}
use lib.ListN.{length}
use Rattle.std.specs.Prelude.{Result, Ok, Err, is_ok, ⊤}
use Rattle.std.specs.Result.{result_and}
use Rattle.lists.specs.Words.{all, leading}
use Rattle.lists.specs.Refusals.{answered}
use Rattle.lists.proofs.Refusals.{none_of}
use Rattle.record.specs.Records.{record_count, records_of, is_whole}
use Rattle.record.specs.Vehicles.{good, vehicles, is_working}
use Rattle.lists.proofs.Lists.{neither, lacking}
use Rattle.record.proofs.Vehicles.{length_vehicles}
use Rattle.account.specs.Ceilings.{within, Within}
use Rattle.account.specs.declared.Account.{Account}
use Rattle.account.proofs.Demands.{within_exactly}
use Rattle.facts.specs.Engines.{GoodEngines}
use Rattle.facts.specs.Facts.{facts_beside}
use Rattle.judge.specs.Answers.{size, engine_refusals, engine_shape}
use Rattle.judge.specs.Judging.{account_judged}
use Rattle.judge.specs.declared.Refusal.{Refusal}
use Rattle.judge.specs.declared.Refusal.TheVariants.{NotWorking}
use Rattle.judge.proofs.Answers.{passes}

-- a list that is not empty, of whole records
pub whole_some : (bs : List ℕ) → (eqb (length bs) 0 || not (is_whole bs)) ≡ false → (length bs % 24 ≡ 0) × (24 ≤ length bs)
whole_some bs e =
    let t = neither (eqb (length bs) 0) (not (is_whole bs)) e in
    let w = eqb-true (length bs % 24) 0 (not-false (is_whole bs) t.1) in
    let z = eqb-false (length bs) 0 t.0 in
    (w, some_24 (length bs) w z)
  where
    some_24 : (n : ℕ) → n % 24 ≡ 0 → (n ≡ 0 → ⊥) → 24 ≤ n
    some_24 n w z = omega arith

module _ (bs : List ℕ) (hauled : Account) where
  -- of engines whose refusals apply to none
  module _ (a : is_ok (answered (engine_refusals bs hauled)) ≡ true) (s : is_ok (answered (engine_shape (vehicles bs) hauled)) ≡ true) where
    pub engines_ready : GoodEngines bs
    engines_ready =
        let t = none_of (engine_refusals bs hauled) a in
        let u = none_of (engine_shape (vehicles bs) hauled) s in
        let w = whole_some bs t.0 in
        record {
          whole = eq-eqb (length bs % 24) 0 w.0;
          some = w.1;
          few = omega (arith, w.0, length_vehicles (record_count bs) bs, ltb-false 2 (length (vehicles bs)) u.1.0);
          each = not-false (all good (records_of bs)) t.1.1.1.0;
        }

    pub hauled_within : Within hauled
    hauled_within =
        let t = none_of (engine_refusals bs hauled) a in
        (within_exactly hauled).0 (not-false (within hauled) t.1.0)

  -- 11 as the code asks it: fewer engines than records
  few_work : ltb (leading is_working (vehicles bs)) (record_count bs) ≡ not (all is_working (vehicles bs))
  few_work = ap (ltb (leading is_working (vehicles bs))) (sym (length_vehicles (record_count bs) bs)) ∙ lacking is_working (vehicles bs)

  module _ (w : ℕ) (working : w ≡ leading is_working (vehicles bs)) where
    shape_is : {b : Bool} → ltb w (record_count bs) ≡ b → answered (engine_shape (vehicles bs) hauled) ≡ cond b (Err NotWorking) (answered (size (record_count bs) hauled.count))
    shape_is e =
        ap (λ (n : ℕ). cond (not (all is_working (vehicles bs))) (Err NotWorking) (answered (size n hauled.count))) (length_vehicles (record_count bs) bs)
        ∙ ap (λ (b : Bool). cond b (Err NotWorking) (answered (size (record_count bs) hauled.count))) (sym few_work ∙ sym (ap (λ (n : ℕ). ltb n (record_count bs)) working) ∙ e)

    pub none_works : w < record_count bs → answered (engine_shape (vehicles bs) hauled) ≡ Err NotWorking
    none_works h = shape_is (lt-ltb w (record_count bs) h)

    pub all_work : record_count bs ≤ w → answered (engine_shape (vehicles bs) hauled) ≡ answered (size (record_count bs) hauled.count)
    all_work h = shape_is (le-ltb w (record_count bs) h)

  -- what is judged where the engines' own refusals apply to none, and nothing of what is lent is refused
  pub account_late : {x y : ⊤} (lent : Result ⊤ Refusal) → answered (engine_refusals bs hauled) ≡ Ok x → lent ≡ Ok y
      → account_judged bs hauled lent ≡ result_and (answered (engine_shape (vehicles bs) hauled)) (Ok (facts_beside (vehicles bs) hauled))
  unfolding account_judged
  account_late lent a b = passes _ a ∙ passes _ b
