-- The orders and the bytes lent: what is answered of them, and what the route of a train that is judged gives. Assumes nothing.
use Prim.Native.Nat.{ℕ, ◌≤◌}
use native.Mathlib.Omega.{arith}
use mathlib.Core.Path.{◌≡◌, sym, ap, ap₂, ◌∙◌}
use mathlib.Core.Bool.{Bool, true, false, not}
use mathlib.Core.List.{List}
use borrow.Author.Tests.{ltb-false, not-false}
use lib.Dec.{ltb}
use lib.ListN.{length}
use Rattle.std.specs.Prelude.{Result, Ok, Err, is_ok, ⊤}
use Rattle.std.specs.Result.{result_and}
use Rattle.lists.specs.Words.{◌above◌, all, Every}
use Rattle.lists.specs.Refusals.{answered}
use Rattle.record.specs.Records.{record_count, records_of}
use Rattle.record.specs.Vehicles.{vehicles}
use Rattle.lists.proofs.Lists.{lacking}
use Rattle.record.proofs.Records.{length_records}
use Rattle.account.specs.declared.Account.{Account}
use Rattle.facts.specs.Facts.{facts_of, facts_beside}
use Rattle.facts.specs.declared.Facts.{Facts}
use Rattle.sections.specs.Sections.{sections_of, laid_over, asked_in, book_named_in, good_section, leading_good}
use Rattle.sections.proofs.Demands.{sections_count, one_byte_a_section, laid_room}
use Rattle.judge.specs.Answers.{written}
use Rattle.judge.specs.Judging.{train_judged, account_judged}
use Rattle.judge.specs.declared.Refusal.{Refusal}
use Rattle.judge.specs.declared.Refusal.TheVariants.{BadOrder, ShortSheet}
use Rattle.judge.proofs.Answers.{ok_is, and_err, and_ok}
use Rattle.judge.proofs.Demands.{train_judged_lem, train_lent, account_judged_lem, account_lent}
use Rattle.route.specs.Answers.{no_route, section_refusals, train_refusals, account_refusals, book_for, granted_for, speeds_for, route_by, train_answer, account_answer}

-- fewer good ones in front than there are exactly where one is not good
pub some_bad_lem : (orders : List ℕ) (place : ℕ) → place ≡ leading_good orders → ltb place (record_count orders) ≡ not (all (good_section (asked_in orders) (book_named_in orders)) (records_of orders))
some_bad_lem orders place found =
    ap₂ ltb found (sym (length_records (record_count orders) orders)) ∙ lacking (good_section (asked_in orders) (book_named_in orders)) (records_of orders)

-- ---- test by test
module _ (orders : List ℕ) (room : ℕ) where
  abbrev some_bad : Bool
  some_bad = not (all (good_section (asked_in orders) (book_named_in orders)) (records_of orders))

  module _ (route : no_route orders ≡ false) where
    pub refused_section : (place : ℕ) → place ≡ leading_good orders → some_bad ≡ true → Err (BadOrder place) ≡ answered (section_refusals orders room)
    refused_section place found e = rw (route, e) (ap (λ (k : ℕ). Err (BadOrder k)) found)

    pub refused_room : some_bad ≡ false → (record_count orders above room) ≡ true → Err ShortSheet ≡ answered (section_refusals orders room)
    refused_room e f = rw (route, e, f)

    pub none_refused : some_bad ≡ false → (record_count orders above room) ≡ false → Ok tt ≡ answered (section_refusals orders room)
    none_refused e f = rw (route, e, f)

-- ---- where none of them is refused
module _ (orders : List ℕ) (room : ℕ) (none : Every (λ c. c.applies ≡ false) (section_refusals orders room)) where
  pub sections_good : all (good_section (asked_in orders) (book_named_in orders)) (records_of orders) ≡ true
  sections_good = not-false _ none.1.0

  pub sections_room : record_count orders ≤ room
  sections_room = ltb-false room (record_count orders) none.1.1.0

pub speeds_long : (f : Facts) (orders : List ℕ) → length (speeds_for f orders) ≡ record_count orders
unfolding speeds_for
speeds_long f orders = one_byte_a_section (book_for (sections_of orders)) f (granted_for f orders) (sections_of orders) ∙ sections_count orders

-- ---- what a call tells by what was judged: j, beside the answer that it is to give and the facts that it is to show
pub record Told (answer : Result ⊤ Refusal) (orders speeds : List ℕ) (f : Facts) (j : Result Facts Refusal) : Type 0 where
  pub refused : (e : Refusal) → j ≡ Err e → answer ≡ Err e
  pub granted : (g : Facts) → j ≡ Ok g → Ok (granted_for g orders) ≡ route_by answer (granted_for f orders)
  pub shown : (g : Facts) → j ≡ Ok g → laid_over (speeds_for g orders) speeds ≡ written answer (speeds_for f orders) speeds

module _ (total : Result ⊤ Refusal) (orders speeds : List ℕ) (f : Facts) (all_passed : is_ok total ≡ true → Every (λ c. c.applies ≡ false) (section_refusals orders (length speeds)))
    (j : Result Facts Refusal) (judged : j ≡ result_and total (Ok f)) where
  told : Told total orders speeds f j
  told =
      record {
        refused = λ e h. and_err total f (sym judged ∙ h);
        granted = λ g h. let d = and_ok total (sym judged ∙ h) in ap (λ (x : Facts). Ok (granted_for x orders)) d.1 ∙ sym (ap (λ (a : Result ⊤ Refusal). route_by a (granted_for f orders)) (ok_is total d.0));
        shown = λ g h. let d = and_ok total (sym judged ∙ h) in
            ap (λ (x : Facts). laid_over (speeds_for x orders) speeds) d.1
            ∙ laid_room (speeds_for f orders) speeds (omega (arith, speeds_long f orders, sections_room orders (length speeds) (all_passed d.0)))
            ∙ sym (ap (λ (a : Result ⊤ Refusal). written a (speeds_for f orders) speeds) (ok_is total d.0));
      }

-- so of a whole train, y being what was answered of the orders and the room, and of engines with an account
module _ (bs orders speeds : List ℕ) (y : Result ⊤ Refusal) (lent : y ≡ answered (section_refusals orders (length speeds))) (j : Result Facts Refusal) where
  pub train_told : j ≡ train_judged bs y → Told (train_answer bs orders (length speeds)) orders speeds (facts_of (vehicles bs)) j
  unfolding train_refusals
  train_told judged =
      told (train_answer bs orders (length speeds)) orders speeds (facts_of (vehicles bs)) (train_lent bs (section_refusals orders (length speeds))) j
      (judged ∙ ap (train_judged bs) lent ∙ train_judged_lem bs (section_refusals orders (length speeds)))

  pub account_told : (hauled : Account) → j ≡ account_judged bs hauled y → Told (account_answer bs hauled orders (length speeds)) orders speeds (facts_beside (vehicles bs) hauled) j
  unfolding account_refusals
  account_told hauled judged =
      told (account_answer bs hauled orders (length speeds)) orders speeds (facts_beside (vehicles bs) hauled) (account_lent bs hauled (section_refusals orders (length speeds))) j
      (judged ∙ ap (account_judged bs hauled) lent ∙ account_judged_lem bs hauled (section_refusals orders (length speeds)))
