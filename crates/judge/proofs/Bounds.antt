-- What is known of the facts and the order of a call that is answered with a sheet. Assumes nothing.
use Prim.Native.Nat.{ℕ, ◌*◌, ◌≤◌}
use mathlib.Core.Path.{◌≡◌, refl, sym, ap, ◌∙◌, subst}
use mathlib.Core.Bool.{true}
use mathlib.Core.List.{List}
use borrow.Author.Tests.{eqb-false}
use lib.ListN.{length, drop}
use Rattle.std.specs.Prelude.{Ok, is_ok}
use Rattle.lists.specs.Words.{leading}
use Rattle.lists.specs.Figures.{some}
use Rattle.lists.specs.Refusals.{answered}
use Rattle.lists.proofs.Refusals.{none_of}
use Rattle.record.specs.Vehicles.{vehicles, is_working}
use Rattle.account.specs.Groupings.{GoodPortion}
use Rattle.account.specs.declared.Account.{Account}
use Rattle.order.specs.Orders.{order_of}
use Rattle.order.proofs.Demands.{german_most}
use Rattle.facts.specs.Facts.{facts_of, facts_beside, Bounded}
use Rattle.facts.proofs.Demands.{facts_bounded}
use Rattle.judge.specs.Answers.{order_refusals, record_refusals, train_shape, train_refusals, train_answer, engine_refusals, engine_shape, account_refusals, account_answer}
use Rattle.judge.proofs.Answers.{all_passed}
use Rattle.judge.proofs.Sheets.{order_good}
use Rattle.judge.proofs.Engines.{engines_ready, hauled_within}
use Rattle.judge.proofs.Trains.{none_in_front, hauled_is, good_rear, sizes_left, front_good, rear_within, facts_are, records_good}

german_within : (order : List ℕ) (room : ℕ) → is_ok (answered (order_refusals order room)) ≡ true → (order_of order).german ≤ 200
german_within order room e = german_most order (order_good order room e)

-- the facts of a train that is ready, whatever was lent beside it
module _ (bs : List ℕ) (a : is_ok (answered (record_refusals bs)) ≡ true) (s : is_ok (answered (train_shape (vehicles bs))) ≡ true) where
  abbrev n : ℕ
  n = leading is_working (vehicles bs)

  some-works : n ≡ 0 → ⊥
  some-works = eqb-false n 0 (none_in_front bs n refl ∙ (none_of (train_shape (vehicles bs)) s).0)

  portion : GoodPortion (drop (24 * n) bs)
  portion = good_rear bs n refl (records_good bs a) (sym (ap (some is_working) (hauled_is bs n refl (records_good bs a))) ∙ (none_of (train_shape (vehicles bs)) s).1.0)

  train_facts_bounded : Bounded (facts_of (vehicles bs))
  train_facts_bounded =
      let g = records_good bs a in
      let sized = ap is_ok (sym (sizes_left bs n refl g some-works portion)) ∙ s in
      subst Bounded (facts_are bs n refl g some-works portion) (facts_bounded _ _ (front_good bs n refl g some-works portion sized) (rear_within bs n refl g some-works portion))

pub bounded_train : (bs order sheet : List ℕ) → train_answer bs order (length sheet) ≡ Ok tt → Bounded (facts_of (vehicles bs)) × ((order_of order).german ≤ 200)
unfolding train_refusals
bounded_train bs order sheet done =
    let g = all_passed (record_refusals bs) (order_refusals order (length sheet)) (train_shape (vehicles bs)) (ap is_ok done) in
    (train_facts_bounded bs g.0 g.2, german_within order (length sheet) g.1)

pub bounded_account : (bs : List ℕ) (hauled : Account) (order : List ℕ) (room : ℕ) → account_answer bs hauled order room ≡ Ok tt
    → Bounded (facts_beside (vehicles bs) hauled) × ((order_of order).german ≤ 200)
unfolding account_refusals
bounded_account bs hauled order room done =
    let g = all_passed (engine_refusals bs hauled) (order_refusals order room) (engine_shape (vehicles bs) hauled) (ap is_ok done) in
    (facts_bounded bs hauled (engines_ready bs hauled g.0 g.2) (hauled_within bs hauled g.0 g.2), german_within order room g.1)
