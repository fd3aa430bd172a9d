-- What is done exactly, and what a mistyped digit is answered: from the tests of the refusals one by one. Assumes nothing.
use Prim.Native.Nat.{ℕ, ◌+◌, ◌%◌, ◌≤◌, ◌<◌}
use native.Mathlib.Omega.{arith}
use mathlib.Core.Path.{◌≡◌, ap, ap₂, ◌∙◌}
use mathlib.Core.Bool.{Bool, true, false, not, ◌||◌}
use mathlib.Core.List.{List, ◌++◌}
use borrow.Author.Tests.{eq-eqb, ne_eqb, eqb-true, eqb-false, le-ltb, ltb-false, not-false}
use lib.Dec.{eqb}
use lib.ListN.{length, length-drop}
use Rattle.std.specs.Prelude.{Ok, Err, is_ok}
use Rattle.lists.specs.Words.{all, leading, Every, Case}
use Rattle.lists.specs.Figures.{first_is}
use Rattle.lists.proofs.Lists.{every_append}
use Rattle.lists.specs.Refusals.{answered}
use Rattle.lists.proofs.Refusals.{none_of, none_refuses}
use Rattle.record.specs.Records.{record_count, records_of, is_whole}
use Rattle.record.specs.Vehicles.{good, vehicles, is_working}
use Rattle.record.specs.Mistyped.{Mistyped}
use Rattle.record.proofs.Vehicles.{length_vehicles}
use Rattle.record.proofs.Demands.{mistyped_some, mistyped_place}
use Rattle.account.specs.Ceilings.{within}
use Rattle.account.specs.declared.Account.{Account}
use Rattle.order.specs.Orders.{good_order, order_of}
use Rattle.facts.specs.Facts.{working_of, hauled_of}
use Rattle.sheets.specs.Sheets.{sheet_length}
use Rattle.judge.specs.Answers.{not_whole, order_refusals, record_refusals, train_shape, train_around, engine_refusals, engine_shape, account_around}
use Rattle.judge.specs.Good.{GoodLent, GoodTrain, GoodWithAccount}
use Rattle.judge.specs.declared.Refusal.{Refusal}
use Rattle.judge.specs.declared.Refusal.TheVariants.{BadField}
use Rattle.judge.proofs.Answers.{all_passed}
use Rattle.judge.proofs.Engines.{engines_ready}
use Rattle.judge.proofs.Trains.{records_good}

above_zero : (n : ℕ) → (n ≡ 0 → ⊥) → 0 < n
above_zero n z = omega arith

some_whole : (bs : List ℕ) → is_whole bs ≡ true → 24 ≤ length bs → (not_whole bs).applies ≡ false
some_whole bs w l = ap₂ (λ (x y : Bool). x || not y) (ne_eqb (length bs) 0 (λ z. omega (arith, z, l))) w

-- ---- the order and the room
module _ (order : List ℕ) (room : ℕ) where
  pub lent_good : Every (λ r. r.applies ≡ false) (order_refusals order room) → GoodLent order room
  lent_good t = record { good = not-false (good_order order) t.0; fits = ltb-false room (sheet_length (order_of order).book) t.1.0 }

  pub good_lent : GoodLent order room → Every (λ r. r.applies ≡ false) (order_refusals order room)
  good_lent l = (ap not l.good, (le-ltb room (sheet_length (order_of order).book) l.fits, tt))

-- ---- a whole train, whatever is lent beside
module _ (bs : List ℕ) (lent : List (Case Refusal)) where
  pub train_good : answered (train_around bs lent) ≡ Ok tt → GoodTrain bs × Every (λ r. r.applies ≡ false) lent
  train_good done =
      let p = all_passed (record_refusals bs) lent (train_shape (vehicles bs)) (ap is_ok done) in
      let g = records_good bs p.0 in
      let t = none_of (train_shape (vehicles bs)) p.2 in (
        record {
          whole = eq-eqb (length bs % 24) 0 g.whole;
          few = g.few;
          each = g.each;
          first = not-false (first_is is_working (vehicles bs)) t.0;
          behind = t.1.0;
          engines = ltb-false 2 (length (working_of (vehicles bs))) t.1.1.0;
          hauled = above_zero (length (hauled_of (vehicles bs))) (eqb-false (length (hauled_of (vehicles bs))) 0 t.1.1.1.0);
        },
        none_of lent p.1,
      )

  pub good_train : GoodTrain bs → Every (λ r. r.applies ≡ false) lent → answered (train_around bs lent) ≡ Ok tt
  good_train g l =
      let some : 24 ≤ length bs = omega (arith, eqb-true (length bs % 24) 0 g.whole, g.hauled, length-drop (leading is_working (vehicles bs)) (vehicles bs), length_vehicles (record_count bs) bs) in
      let few = le-ltb 200 (record_count bs) g.few in
      let engines = le-ltb 2 (length (working_of (vehicles bs))) g.engines in
      let hauled = ne_eqb (length (hauled_of (vehicles bs))) 0 (λ z. omega (arith, z, g.hauled)) in
      none_refuses (train_around bs lent)
      (every_append (λ r. r.applies ≡ false) (record_refusals bs) (lent ++ train_shape (vehicles bs))
      (some_whole bs g.whole some, (few, (ap not g.each, tt)))
      (every_append (λ r. r.applies ≡ false) lent (train_shape (vehicles bs)) l (ap not g.first, (g.behind, (engines, (hauled, tt))))))

-- ---- engines with an account, whatever is lent beside
module _ (bs : List ℕ) (hauled : Account) (lent : List (Case Refusal)) where
  pub account_good : answered (account_around bs hauled lent) ≡ Ok tt → GoodWithAccount bs hauled × Every (λ r. r.applies ≡ false) lent
  account_good done =
      let p = all_passed (engine_refusals bs hauled) lent (engine_shape (vehicles bs) hauled) (ap is_ok done) in
      let t = none_of (engine_refusals bs hauled) p.0 in
      let u = none_of (engine_shape (vehicles bs) hauled) p.2 in (
        record {
          engines = engines_ready bs hauled p.0 p.2;
          working = not-false (all is_working (vehicles bs)) u.0;
          ceilings = not-false (within hauled) t.1.0;
          few = ltb-false 200 (record_count bs + hauled.count) t.1.1.0;
          hauled = above_zero hauled.count (eqb-false hauled.count 0 u.1.1.0);
        },
        none_of lent p.1,
      )

  pub good_account : GoodWithAccount bs hauled → Every (λ r. r.applies ≡ false) lent → answered (account_around bs hauled lent) ≡ Ok tt
  good_account g l =
      let whole = some_whole bs g.engines.whole g.engines.some in
      let together = le-ltb 200 (record_count bs + hauled.count) g.few in
      let few = le-ltb 2 (length (vehicles bs)) (omega (arith, g.engines.few, length_vehicles (record_count bs) bs)) in
      let some = ne_eqb hauled.count 0 (λ z. omega (arith, z, g.hauled)) in
      none_refuses (account_around bs hauled lent)
      (every_append (λ r. r.applies ≡ false) (engine_refusals bs hauled) (lent ++ engine_shape (vehicles bs) hauled)
      (whole, (ap not g.ceilings, (together, (ap not g.engines.each, tt))))
      (every_append (λ r. r.applies ≡ false) lent (engine_shape (vehicles bs) hauled) l (ap not g.working, (few, (some, tt)))))

-- ---- one digit mistyped: 1, 2 and 7 are asked of the length and the account alone, and so of the mistyped bytes as of the others
module _ (bs other : List ℕ) (i : ℕ) (m : Mistyped bs other i) where
  same_whole : (not_whole other).applies ≡ (not_whole bs).applies
  same_whole = ap (λ (n : ℕ). eqb n 0 || not (eqb (n % 24) 0)) m.long

  same_count : record_count other ≡ record_count bs
  same_count = omega (arith, m.long)

  pub train_mistyped : (lent : List (Case Refusal)) → Every (λ r. r.applies ≡ false) (record_refusals bs) → answered (train_around other lent) ≡ Err (BadField i)
  train_mistyped lent t =
      let g = not-false (all good (records_of bs)) t.1.1.0 in
      simp (same_whole ∙ t.0, le-ltb 200 (record_count other) (omega (arith, same_count, ltb-false 200 (record_count bs) t.1.0)), mistyped_some bs other i m g, mistyped_place bs other i m g)

  pub account_mistyped : (hauled : Account) (lent : List (Case Refusal)) → Every (λ r. r.applies ≡ false) (engine_refusals bs hauled) → answered (account_around other hauled lent) ≡ Err (BadField i)
  account_mistyped hauled lent t =
      let g = not-false (all good (records_of bs)) t.1.1.1.0 in
      simp (same_whole ∙ t.0, t.1.0, le-ltb 200 (record_count other + hauled.count) (omega (arith, same_count, ltb-false 200 (record_count bs + hauled.count) t.1.1.0)), mistyped_some bs other i m g, mistyped_place bs other i m g)
