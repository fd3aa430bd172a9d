-- The order and the lent sheet: what is answered of them, and what the sheet of a train that is judged holds. Assumes nothing.
use Prim.Native.Nat.{ℕ, ◌≤◌}
use native.Mathlib.Omega.{arith}
use mathlib.Core.Path.{◌≡◌, refl, sym, ap, ap₂, ◌∙◌, subst}
use mathlib.Core.Bool.{Bool, true, false}
use mathlib.Core.List.{List, ◌++◌}
use borrow.Author.Tests.{ltb-false, not-false}
use lib.ListN.{length, drop}
use Rattle.std.specs.Prelude.{Result, Ok, Err, is_ok, ⊤}
use Rattle.std.specs.Result.{result_and}
use Rattle.lists.specs.Words.{Case}
use Rattle.lists.specs.Refusals.{answered}
use Rattle.lists.proofs.Refusals.{none_of}
use Rattle.record.specs.Vehicles.{vehicles}
use Rattle.account.specs.declared.Account.{Account}
use Rattle.facts.specs.Facts.{facts_of, facts_beside}
use Rattle.order.specs.Orders.{good_order, order_of, order_read}
use Rattle.order.specs.declared.Book.{Book}
use Rattle.order.specs.declared.Book.TheVariants.{CrossBorder, Domestic}
use Rattle.order.specs.declared.Order.{Order}
use Rattle.order.proofs.Demands.{read_good}
use Rattle.facts.specs.declared.Facts.{Facts}
use Rattle.sheets.specs.Sheets.{sheet_length}
use Rattle.sheets.proofs.Demands.{sheet_length_lem}
use Rattle.judge.specs.Answers.{order_tests, order_refusals, record_refusals, train_shape, train_refusals, train_answer, engine_refusals, engine_shape, account_refusals, account_answer, sheet_for, written}
use Rattle.judge.specs.Judging.{train_judged, account_judged}
use Rattle.judge.specs.declared.Refusal.{Refusal}
use Rattle.judge.proofs.Answers.{ok_is, and_err, and_ok, all_passed, around_value}

-- ---- the sheet's bytes, laid over the lent ones
pub sheet_long : (f : Facts) (o : Order) → length (sheet_for f o) ≡ sheet_length o.book
unfolding sheet_for
sheet_long f o = sheet_length_lem o.book f o

pub length_most : (b : Book) → sheet_length b ≤ 33
length_most CrossBorder = omega arith
length_most Domestic = omega arith

pub laid : (line bytes sheet : List ℕ) (n : ℕ) → line ≡ bytes → n ≡ length bytes → line ++ drop n sheet ≡ bytes ++ drop (length bytes) sheet
laid line bytes sheet n e h = ap₂ ◌++◌ e (ap (λ (k : ℕ). drop k sheet) h)

-- ---- the order and the room
-- the bytes are asked only of a good order, which is read as its fields say
pub order_tests_lem : (good : Bool) (order : List ℕ) (o : Order) (bytes room : ℕ) → good ≡ good_order order → o ≡ order_read order → bytes ≡ sheet_length o.book
    → answered (order_tests good bytes room) ≡ answered (order_refusals order room)
order_tests_lem good order o bytes room e read long = ap (λ (b : Bool). answered (order_tests b bytes room)) e ∙ go (good_order order) refl
  where
    go : (b : Bool) → good_order order ≡ b → answered (order_tests b bytes room) ≡ answered (order_tests b (sheet_length (order_of order).book) room)
    go true g = ap (λ (n : ℕ). answered (order_tests true n room)) (long ∙ ap (λ (x : Order). sheet_length x.book) (read ∙ read_good order g))
    go false g = refl

module _ (order : List ℕ) (room : ℕ) (done : is_ok (answered (order_refusals order room)) ≡ true) where
  pub order_good : good_order order ≡ true
  order_good = not-false (good_order order) (none_of (order_refusals order room) done).0

  order_read_lem : order_read order ≡ order_of order
  order_read_lem = read_good order order_good

  order_room : sheet_length (order_read order).book ≤ room
  order_room = subst (λ (o : Order). sheet_length o.book ≤ room) (sym order_read_lem) (ltb-false room (sheet_length (order_of order).book) (none_of (order_refusals order room) done).1.0)

-- ---- what a call tells by what was judged: j, beside the answer that it is to give and the facts that it is to show
pub record Told (answer : Result ⊤ Refusal) (order sheet : List ℕ) (f : Facts) (j : Result Facts Refusal) : Type 0 where
  pub refused : (e : Refusal) → j ≡ Err e → answer ≡ Err e
  pub done : (g : Facts) → j ≡ Ok g → answer ≡ Ok tt
  pub room : (g : Facts) → j ≡ Ok g → sheet_length (order_read order).book ≤ length sheet
  pub shown : (g : Facts) → j ≡ Ok g → sheet_for g (order_read order) ++ drop (length (sheet_for g (order_read order))) sheet ≡ written answer (sheet_for f (order_of order)) sheet

-- first and behind are the refusals before and behind those of the order and the room
module _ (first behind : List (Case Refusal)) (order sheet : List ℕ) (f : Facts) (j : Result Facts Refusal) where
  abbrev total : Result ⊤ Refusal
  total = answered (first ++ (order_refusals order (length sheet) ++ behind))

  told : j ≡ result_and total (Ok f) → Told total order sheet f j
  told judged =
      record {
        refused = λ e h. and_err total f (sym judged ∙ h);
        done = done_is;
        room = λ g h. order_room order (length sheet) (lent_passed g h);
        shown = λ g h.
            ap₂ (λ (x : Facts) (o : Order). sheet_for x o ++ drop (length (sheet_for x o)) sheet) (and_ok total (sym judged ∙ h)).1 (order_read_lem order (length sheet) (lent_passed g h))
            ∙ sym (ap (λ (a : Result ⊤ Refusal). written a (sheet_for f (order_of order)) sheet) (done_is g h));
      }
    where
      done_is : (g : Facts) → j ≡ Ok g → total ≡ Ok tt
      done_is g h = ok_is total (and_ok total (sym judged ∙ h)).0

      lent_passed : (g : Facts) → j ≡ Ok g → is_ok (answered (order_refusals order (length sheet))) ≡ true
      lent_passed g h = (all_passed first (order_refusals order (length sheet)) behind (and_ok total (sym judged ∙ h)).0).1

-- so of a whole train, y being what was answered of the order and the room, and of engines with an account
module _ (bs order sheet : List ℕ) (y : Result ⊤ Refusal) (lent : y ≡ answered (order_refusals order (length sheet))) (j : Result Facts Refusal) where
  pub train_told : j ≡ train_judged bs y → Told (train_answer bs order (length sheet)) order sheet (facts_of (vehicles bs)) j
  unfolding train_judged train_refusals
  train_told judged =
      told (record_refusals bs) (train_shape (vehicles bs)) order sheet (facts_of (vehicles bs)) j
      (judged ∙ ap (train_judged bs) lent ∙ around_value (record_refusals bs) (order_refusals order (length sheet)) (train_shape (vehicles bs)) (facts_of (vehicles bs)))

  pub account_told : (hauled : Account) → j ≡ account_judged bs hauled y → Told (account_answer bs hauled order (length sheet)) order sheet (facts_beside (vehicles bs) hauled) j
  unfolding account_judged account_refusals
  account_told hauled judged =
      told (engine_refusals bs hauled) (engine_shape (vehicles bs) hauled) order sheet (facts_beside (vehicles bs) hauled) j
      (judged ∙ ap (account_judged bs hauled) lent ∙ around_value (engine_refusals bs hauled) (order_refusals order (length sheet)) (engine_shape (vehicles bs) hauled) (facts_beside (vehicles bs) hauled))
