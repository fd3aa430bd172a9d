-- The demands, as far as a train and its sheet go: the theorems, over the definitions of specs/. Assumes nothing.
use Prim.Native.Nat.{ℕ, ◌≤◌}
use native.Mathlib.Omega.{arith}
use mathlib.Core.Path.{◌≡◌, refl, sym, ap, ap₂, ◌∙◌}
use mathlib.Core.Logic.{◌⊎◌}
use mathlib.Core.Bool.{true, false}
use mathlib.Core.List.{List, [], ◌∷◌, ◌++◌, map}
use lib.ListN.{length, drop}
use Rattle.std.specs.Prelude.{Result, Ok, Err, is_ok, IsOk, ⊤}
use Rattle.std.specs.Result.{result_and}
use Rattle.lists.specs.Words.{◌is◌, all, leading, Every, Case, case_at, First}
use Rattle.lists.specs.Refusals.{answered}
use Rattle.record.specs.Records.{records_of}
use Rattle.record.specs.Vehicles.{good, vehicles, is_working}
use Rattle.record.specs.Mistyped.{Mistyped}
use Rattle.record.specs.declared.vehicle.Vehicle.{Vehicle}
use Rattle.lists.proofs.Cases.{first_or_none}
use Rattle.lists.proofs.Refusals.{first_refuses, none_refuses, none_of}
use Rattle.account.specs.Accounts.{account_of}
use Rattle.account.specs.Portions.{accounted}
use Rattle.account.specs.Groupings.{Grouping, uncut, joined_bytes, BetweenRecords, GoodPortion, NoneRefused}
use Rattle.account.specs.declared.Account.{Account}
use Rattle.account.proofs.Demands.{any_grouping_done, portion_done_exactly}
use Rattle.record.specs.Ranges.{in_ranges}
use Rattle.order.specs.Orders.{cross_border_fields, fields_of, good_order, order_of}
use Rattle.order.specs.declared.Book.{Book}
use Rattle.order.specs.declared.Book.TheVariants.{CrossBorder, Domestic}
use Rattle.order.specs.declared.Order.{Order}
use Rattle.facts.specs.Engines.{GoodEngines}
use Rattle.facts.specs.Facts.{facts_of, beside_of, facts_beside, Bounded}
use Rattle.facts.specs.declared.Facts.{Facts}
use Rattle.order.proofs.Demands.{domestic_german}
use Rattle.categories.specs.Categories.{stepped, percentage_of}
use Rattle.categories.specs.declared.category.Category.{Category}
use Rattle.rules.specs.CrossBorder.{cross_border}
use Rattle.rules.specs.Withdrawn.{former_book, longer}
use Rattle.rules.proofs.Demands.{train_not_longer, account_not_longer}
use Rattle.books.specs.Books.{book_of}
use Rattle.sheets.specs.Sheets.{sheet_length, sheet_of}
use Rattle.sheets.proofs.Demands.{sheet_kept}
use Rattle.judge.specs.Answers.{number_of, place_of, answer_number, order_tests, order_refusals, record_refusals, train_shape, train_around, train_refusals, train_answer, train_sheet, engine_refusals, engine_shape, account_around, account_refusals, account_answer, account_sheet, sheet_for, written}
use Rattle.judge.specs.Judging.{train_judged, account_judged}
use Rattle.judge.specs.Shown.{Shows}
use Rattle.judge.specs.Good.{GoodLent, GoodTrain, GoodWithAccount}
use Rattle.judge.specs.declared.Refusal.{Refusal}
use Rattle.judge.specs.declared.Refusal.TheVariants.{NotWhole, TooMany, BadField, BadOrder, ShortSheet, AboveCeiling, NotWorking, WorkingBehind, ManyEngines, NothingHauled}
use Rattle.judge.proofs.Bounds.{bounded_train, bounded_account}
use Rattle.judge.proofs.Answers.{ok_is, all_passed, around_groups, around_value}
use Rattle.judge.proofs.Answers as answers
use Rattle.judge.proofs.Joint.{answers_same, facts_joint}
use Rattle.judge.proofs.Sheets as sheets
use Rattle.judge.proofs.Sheets.{sheet_long}
use Rattle.judge.proofs.Shown.{shows_done}
use Rattle.judge.proofs.Exactly as exactly
use Rattle.judge.proofs.Exactly.{lent_good, good_lent, train_good, good_train, account_good, good_account}

-- ---- demand 1: every input is answered
-- the refusals' numbers in document 01's two orders, and their places
pub train_numbers : (bs order : List ℕ) (room : ℕ) → map (λ (r : Case Refusal). number_of r.gives) (train_refusals bs order room) ≡ 1 ∷ 2 ∷ 3 ∷ 4 ∷ 5 ∷ 11 ∷ 12 ∷ 13 ∷ 14 ∷ []
unfolding train_refusals
train_numbers bs order room = refl

pub train_places : (bs order : List ℕ) (room : ℕ) → map (λ (r : Case Refusal). place_of r.gives) (train_refusals bs order room) ≡ 0 ∷ 0 ∷ leading good (records_of bs) ∷ 0 ∷ 0 ∷ 0 ∷ 0 ∷ 0 ∷ 0 ∷ []
unfolding train_refusals
train_places bs order room = refl

pub account_numbers : (bs : List ℕ) (hauled : Account) (order : List ℕ) (room : ℕ)
    → map (λ (r : Case Refusal). number_of r.gives) (account_refusals bs hauled order room) ≡ 1 ∷ 7 ∷ 2 ∷ 3 ∷ 4 ∷ 5 ∷ 11 ∷ 13 ∷ 14 ∷ []
unfolding account_refusals
account_numbers bs hauled order room = refl

pub account_places : (bs : List ℕ) (hauled : Account) (order : List ℕ) (room : ℕ)
    → map (λ (r : Case Refusal). place_of r.gives) (account_refusals bs hauled order room) ≡ 0 ∷ 0 ∷ 0 ∷ leading good (records_of bs) ∷ 0 ∷ 0 ∷ 0 ∷ 0 ∷ 0 ∷ []
unfolding account_refusals
account_places bs hauled order room = refl

-- each is given exactly when it applies and no earlier one does
pub answered_in_order : (other : Refusal) (rs : List (Case Refusal)) (f : First other rs) → answered rs ≡ Err (case_at other rs f.place).gives
answered_in_order other rs f = first_refuses other rs f.place f.within f.applies f.earlier

-- and there always is one that does so, or none applies
pub first_or_done : (other : Refusal) (rs : List (Case Refusal)) → First other rs ⊎ Every (λ r. r.applies ≡ false) rs
first_or_done = first_or_none

-- 0 is the number of the answer that is done, and of no other
pub done_number : {T : Type 0} (answer : Result T Refusal) → (answer_number answer is 0) ≡ is_ok answer
done_number (Ok x) = refl
done_number (Err r) = refused_number r
  where
    refused_number : (r : Refusal) → (number_of r is 0) ≡ false
    refused_number NotWhole = refl
    refused_number TooMany = refl
    refused_number (BadField place) = refl
    refused_number (BadOrder place) = refl
    refused_number ShortSheet = refl
    refused_number AboveCeiling = refl
    refused_number NotWorking = refl
    refused_number WorkingBehind = refl
    refused_number ManyEngines = refl
    refused_number NothingHauled = refl

pub done_only : (answer : Result ⊤ Refusal) → (answer_number answer is 0) ≡ true → answer ≡ Ok tt
done_only answer e = ok_is answer (sym (done_number answer) ∙ e)

pub done_when_none_applies : (rs : List (Case Refusal)) → Every (λ r. r.applies ≡ false) rs → answered rs ≡ Ok tt
done_when_none_applies = none_refuses

-- a train is done exactly when it is good and nothing of what is lent beside it is refused; so are engines with an account
pub train_done_around : (bs : List ℕ) (lent : List (Case Refusal))
    → (answered (train_around bs lent) ≡ Ok tt → GoodTrain bs × Every (λ r. r.applies ≡ false) lent)
    × (GoodTrain bs → Every (λ r. r.applies ≡ false) lent → answered (train_around bs lent) ≡ Ok tt)
train_done_around bs lent = (train_good bs lent, good_train bs lent)

pub account_done_around : (bs : List ℕ) (hauled : Account) (lent : List (Case Refusal))
    → (answered (account_around bs hauled lent) ≡ Ok tt → GoodWithAccount bs hauled × Every (λ r. r.applies ≡ false) lent)
    × (GoodWithAccount bs hauled → Every (λ r. r.applies ≡ false) lent → answered (account_around bs hauled lent) ≡ Ok tt)
account_done_around bs hauled lent = (account_good bs hauled lent, good_account bs hauled lent)

-- so for a sheet exactly when the order is good and there is room too
pub train_done_exactly : (bs order : List ℕ) (room : ℕ)
    → (train_answer bs order room ≡ Ok tt → GoodTrain bs × GoodLent order room)
    × (GoodTrain bs → GoodLent order room → train_answer bs order room ≡ Ok tt)
unfolding train_refusals
train_done_exactly bs order room = (
  λ done. let g = train_good bs (order_refusals order room) done in (g.0, lent_good order room g.1),
  λ g l. good_train bs (order_refusals order room) g (good_lent order room l),
)

pub account_done_exactly : (bs : List ℕ) (hauled : Account) (order : List ℕ) (room : ℕ)
    → (account_answer bs hauled order room ≡ Ok tt → GoodWithAccount bs hauled × GoodLent order room)
    × (GoodWithAccount bs hauled → GoodLent order room → account_answer bs hauled order room ≡ Ok tt)
unfolding account_refusals
account_done_exactly bs hauled order room = (
  λ done. let g = account_good bs hauled (order_refusals order room) done in (g.0, lent_good order room g.1),
  λ g l. good_account bs hauled (order_refusals order room) g (good_lent order room l),
)

-- what is lent beside a train, answered first and given as one answer, changes nothing
pub train_judged_lem : (bs : List ℕ) (lent : List (Case Refusal)) → train_judged bs (answered lent) ≡ result_and (answered (train_around bs lent)) (Ok (facts_of (vehicles bs)))
unfolding train_judged
train_judged_lem bs lent = around_value (record_refusals bs) lent (train_shape (vehicles bs)) (facts_of (vehicles bs))

pub account_judged_lem : (bs : List ℕ) (hauled : Account) (lent : List (Case Refusal))
    → account_judged bs hauled (answered lent) ≡ result_and (answered (account_around bs hauled lent)) (Ok (facts_beside (vehicles bs) hauled))
unfolding account_judged
account_judged_lem bs hauled lent = around_value (engine_refusals bs hauled) lent (engine_shape (vehicles bs) hauled) (facts_beside (vehicles bs) hauled)

-- and what answers the same gives the same
pub train_around_same : (bs : List ℕ) (lent other : List (Case Refusal)) → answered lent ≡ answered other → answered (train_around bs lent) ≡ answered (train_around bs other)
train_around_same bs lent other e =
    around_groups (record_refusals bs) lent (train_shape (vehicles bs))
    ∙ ap (λ (a : Result ⊤ Refusal). result_and (answered (record_refusals bs)) (result_and a (answered (train_shape (vehicles bs))))) e
    ∙ sym (around_groups (record_refusals bs) other (train_shape (vehicles bs)))

pub account_around_same : (bs : List ℕ) (hauled : Account) (lent other : List (Case Refusal)) → answered lent ≡ answered other
    → answered (account_around bs hauled lent) ≡ answered (account_around bs hauled other)
account_around_same bs hauled lent other e =
    around_groups (engine_refusals bs hauled) lent (engine_shape (vehicles bs) hauled)
    ∙ ap (λ (a : Result ⊤ Refusal). result_and (answered (engine_refusals bs hauled)) (result_and a (answered (engine_shape (vehicles bs) hauled)))) e
    ∙ sym (around_groups (engine_refusals bs hauled) other (engine_shape (vehicles bs) hauled))

-- where the whole is done, nothing of what is lent is refused
pub train_lent : (bs : List ℕ) (lent : List (Case Refusal)) → is_ok (answered (train_around bs lent)) ≡ true → Every (λ r. r.applies ≡ false) lent
train_lent bs lent d = none_of lent (all_passed (record_refusals bs) lent (train_shape (vehicles bs)) d).1

pub account_lent : (bs : List ℕ) (hauled : Account) (lent : List (Case Refusal)) → is_ok (answered (account_around bs hauled lent)) ≡ true → Every (λ r. r.applies ≡ false) lent
account_lent bs hauled lent d = none_of lent (all_passed (engine_refusals bs hauled) lent (engine_shape (vehicles bs) hauled) d).1

-- and where nothing before applies and something of what is lent is refused, that is the answer
pub train_lent_refused : (bs : List ℕ) (lent : List (Case Refusal)) → Every (λ r. r.applies ≡ false) (record_refusals bs) → is_ok (answered lent) ≡ false
    → answered (train_around bs lent) ≡ answered lent
train_lent_refused bs lent = answers.lent_refused (record_refusals bs) lent (train_shape (vehicles bs))

pub account_lent_refused : (bs : List ℕ) (hauled : Account) (lent : List (Case Refusal)) → Every (λ r. r.applies ≡ false) (engine_refusals bs hauled) → is_ok (answered lent) ≡ false
    → answered (account_around bs hauled lent) ≡ answered lent
account_lent_refused bs hauled lent = answers.lent_refused (engine_refusals bs hauled) lent (engine_shape (vehicles bs) hauled)

-- a refused call writes nothing at all; a done call writes its bytes over the first of those lent and no other
pub refused_unwritten : {T : Type 0} (answer : Result T Refusal) (bytes sheet : List ℕ) → is_ok answer ≡ false → written answer bytes sheet ≡ sheet
refused_unwritten answer bytes sheet e = rw e

pub done_written : {T : Type 0} (x : T) (bytes sheet : List ℕ) → written (Ok x) bytes sheet ≡ bytes ++ drop (length bytes) sheet
done_written x bytes sheet = refl

-- 32 bytes of a cross-border sheet, 33 of a domestic one
pub sheet_bytes_lem : (f : Facts) (o : Order) → length (sheet_for f o) ≡ sheet_length o.book
sheet_bytes_lem = sheet_long

pub thirty_two : (f : Facts) (o : Order) → o.book ≡ CrossBorder → length (sheet_for f o) ≡ 32
thirty_two f o e = sheet_long f o ∙ ap sheet_length e

pub thirty_three : (f : Facts) (o : Order) → o.book ≡ Domestic → length (sheet_for f o) ≡ 33
thirty_three f o e = sheet_long f o ∙ ap sheet_length e

pub length_most : (b : Book) → sheet_length b ≤ 33
length_most = sheets.length_most

-- so of a whole train, and of engines with an account
pub train_refused : (bs order sheet : List ℕ) → is_ok (train_answer bs order (length sheet)) ≡ false → train_sheet bs order sheet ≡ sheet
train_refused bs order sheet e = refused_unwritten (train_answer bs order (length sheet)) (sheet_for (facts_of (vehicles bs)) (order_of order)) sheet e

pub account_refused : (bs : List ℕ) (hauled : Account) (order sheet : List ℕ) → is_ok (account_answer bs hauled order (length sheet)) ≡ false → account_sheet bs hauled order sheet ≡ sheet
account_refused bs hauled order sheet e = refused_unwritten (account_answer bs hauled order (length sheet)) (sheet_for (facts_beside (vehicles bs) hauled) (order_of order)) sheet e

-- request Two: of records that 1, 2 and 3 do not refuse, with one digit of one number mistyped: 3 at that record's place, whatever is lent beside
pub train_mistyped : (bs other : List ℕ) (i : ℕ) → Mistyped bs other i → (lent : List (Case Refusal)) → Every (λ r. r.applies ≡ false) (record_refusals bs) → answered (train_around other lent) ≡ Err (BadField i)
train_mistyped = exactly.train_mistyped

-- of engines with an account that 1, 7, 2 and 3 do not refuse, with one digit of an engine's number mistyped
pub account_mistyped : (bs other : List ℕ) (i : ℕ) → Mistyped bs other i → (hauled : Account) (lent : List (Case Refusal)) → Every (λ r. r.applies ≡ false) (engine_refusals bs hauled)
    → answered (account_around other hauled lent) ≡ Err (BadField i)
account_mistyped = exactly.account_mistyped

-- so with any order and room, and nothing is written
pub train_mistyped_answered : (bs other : List ℕ) (i : ℕ) → Mistyped bs other i → (order sheet : List ℕ) → Every (λ r. r.applies ≡ false) (record_refusals bs)
    → (train_answer other order (length sheet) ≡ Err (BadField i)) × (train_sheet other order sheet ≡ sheet)
unfolding train_refusals
train_mistyped_answered bs other i m order sheet none =
    let a = train_mistyped bs other i m (order_refusals order (length sheet)) none in (a, train_refused other order sheet (ap is_ok a))

pub account_mistyped_answered : (bs other : List ℕ) (i : ℕ) → Mistyped bs other i → (hauled : Account) (order sheet : List ℕ) → Every (λ r. r.applies ≡ false) (engine_refusals bs hauled)
    → (account_answer other hauled order (length sheet) ≡ Err (BadField i)) × (account_sheet other hauled order sheet ≡ sheet)
unfolding account_refusals
account_mistyped_answered bs other i m hauled order sheet none =
    let a = account_mistyped bs other i m hauled (order_refusals order (length sheet)) none in (a, account_refused other hauled order sheet (ap is_ok a))

-- ---- demand 2: the sheet that is written is the one the rules give, over the records, and over the figures
pub train_shows : (bs order sheet : List ℕ) → train_answer bs order (length sheet) ≡ Ok tt → Shows (facts_of (vehicles bs)) (order_of order) (train_sheet bs order sheet)
train_shows bs order sheet done = shows_done _ (facts_of (vehicles bs)) (order_of order) sheet done (bounded_train bs order sheet done)

pub account_shows : (bs : List ℕ) (hauled : Account) (order sheet : List ℕ) → account_answer bs hauled order (length sheet) ≡ Ok tt
    → Shows (facts_beside (vehicles bs) hauled) (order_of order) (account_sheet bs hauled order sheet)
account_shows bs hauled order sheet done =
    shows_done _ (facts_beside (vehicles bs) hauled) (order_of order) sheet done (bounded_account bs hauled order (length sheet) done)

-- the facts and the order of a call that is done are bounded, so that each stands on the sheet as it is
pub train_bounded : (bs order sheet : List ℕ) → train_answer bs order (length sheet) ≡ Ok tt → Bounded (facts_of (vehicles bs)) × ((order_of order).german ≤ 200)
train_bounded = bounded_train

pub account_bounded : (bs : List ℕ) (hauled : Account) (order : List ℕ) (room : ℕ) → account_answer bs hauled order room ≡ Ok tt
    → Bounded (facts_beside (vehicles bs) hauled) × ((order_of order).german ≤ 200)
account_bounded = bounded_account

-- ---- demand 3, second half
-- with one or two good working engines in front, portions cut anywhere between records and joined in any grouping,
-- the account that they join to and the engines give the refusals of the uncut train, whatever is lent beside, and its facts
module _ (engines : List ℕ) (g : Grouping ℕ) (e : GoodEngines engines) (working : all is_working (vehicles engines) ≡ true) (cut : BetweenRecords g) (done : IsOk (accounted (uncut g))) where
  uncut_good : GoodPortion (uncut g)
  uncut_good = (portion_done_exactly (uncut g)).0 done

  -- there is such an account, that of the uncut list
  pub joined_is : joined_bytes g ≡ Ok (account_of (vehicles (uncut g)))
  joined_is = (any_grouping_done g cut uncut_good).1

  module _ (joined : Account) (gives : joined_bytes g ≡ Ok joined) where
    account_is : joined ≡ account_of (vehicles (uncut g))
    account_is = let h = joined_is in cc

    pub answer_from_account : (lent : List (Case Refusal)) → answered (account_around engines joined lent) ≡ answered (train_around (engines ++ uncut g) lent)
    answer_from_account lent = ap (λ (a : Account). answered (account_around engines a lent)) account_is ∙ answers_same engines (uncut g) lent e working uncut_good

    pub facts_from_account : facts_beside (vehicles engines) joined ≡ facts_of (vehicles (engines ++ uncut g))
    facts_from_account = ap (facts_beside (vehicles engines)) account_is ∙ facts_joint engines (uncut g) [] e working uncut_good

-- so with any order, the same refusal or sheet
module _ (engines : List ℕ) (g : Grouping ℕ) (order sheet : List ℕ) (e : GoodEngines engines) (working : all is_working (vehicles engines) ≡ true) (cut : BetweenRecords g) where
  pub sheet_from_account : IsOk (accounted (uncut g)) → (joined : Account) → joined_bytes g ≡ Ok joined
      → (account_answer engines joined order (length sheet) ≡ train_answer (engines ++ uncut g) order (length sheet))
      × (account_sheet engines joined order sheet ≡ train_sheet (engines ++ uncut g) order sheet)
  unfolding account_refusals train_refusals
  sheet_from_account done joined gives =
      let a = answer_from_account engines g e working cut done joined gives (order_refusals order (length sheet)) in
      (a, ap₂ (λ (x : Result ⊤ Refusal) (f : Facts). written x (sheet_for f (order_of order)) sheet) a (facts_from_account engines g e working cut done joined gives))

  -- from the records alone: each good, none a working engine, at most 200; then no call is refused
  pub sheet_from_portions : GoodPortion (uncut g)
      → NoneRefused g
      × (joined_bytes g ≡ Ok (account_of (vehicles (uncut g))))
      × (account_answer engines (account_of (vehicles (uncut g))) order (length sheet) ≡ train_answer (engines ++ uncut g) order (length sheet))
      × (account_sheet engines (account_of (vehicles (uncut g))) order sheet ≡ train_sheet (engines ++ uncut g) order sheet)
  sheet_from_portions good =
      let d = any_grouping_done g cut good in
      let s = sheet_from_account (ap is_ok ((portion_done_exactly (uncut g)).1 good)) (account_of (vehicles (uncut g))) d.1 in
      (d.0, d.1, s.0, s.1)

-- ---- of a domestic order p is the table's at the train's length, since its byte 6 is 0
pub domestic_percentage : (order : List ℕ) → good_order order ≡ true → (order_of order).book ≡ Domestic → (c : Category) (f : Facts) → percentage_of c f (order_of order) ≡ stepped c.percentage f.trainLength
unfolding percentage_of
domestic_percentage order good named c f = omega (arith, domestic_german order good named)

-- ---- an order that names the cross-border book: the domestic book has no say in what it is answered and given
module _ (order : List ℕ) (cross : (order_of order).book ≡ CrossBorder) where
  -- 4 by the cross-border table alone, 5 below 32 bytes
  pub cross_order_kept : (room : ℕ) → order_refusals order room ≡ order_tests (in_ranges cross_border_fields order) 32 room
  unfolding good_order order_of
  cross_order_kept room = ap (λ (b : Book). order_tests (in_ranges (fields_of b) order) (sheet_length b) room) cross

  -- its sheet is by the cross-border book's rules
  pub cross_sheet_kept : (f : Facts) → sheet_for f (order_of order) ≡ sheet_of cross_border f (order_of order)
  unfolding sheet_for book_of
  cross_sheet_kept f = ap (λ (b : Book). sheet_of (book_of b) f (order_of order)) cross

  -- so the whole call, of a train and of engines with an account
  pub cross_train_kept : (bs sheet : List ℕ)
      → train_sheet bs order sheet ≡ written (answered (train_around bs (order_tests (in_ranges cross_border_fields order) 32 (length sheet)))) (sheet_of cross_border (facts_of (vehicles bs)) (order_of order)) sheet
  unfolding train_refusals
  cross_train_kept bs sheet =
      ap₂ (λ (lent : List (Case Refusal)) (bytes : List ℕ). written (answered (train_around bs lent)) bytes sheet) (cross_order_kept (length sheet)) (cross_sheet_kept (facts_of (vehicles bs)))

  pub cross_account_kept : (bs : List ℕ) (hauled : Account) (sheet : List ℕ)
      → account_sheet bs hauled order sheet
      ≡ written (answered (account_around bs hauled (order_tests (in_ranges cross_border_fields order) 32 (length sheet)))) (sheet_of cross_border (facts_beside (vehicles bs) hauled) (order_of order)) sheet
  unfolding account_refusals
  cross_account_kept bs hauled sheet =
      ap₂ (λ (lent : List (Case Refusal)) (bytes : List ℕ). written (answered (account_around bs hauled lent)) bytes sheet) (cross_order_kept (length sheet)) (cross_sheet_kept (facts_beside (vehicles bs) hauled))

  -- ---- rule 46, withdrawn by request Five: no byte of a train's sheet is another than by the former list
  pub train_sheet_kept : (bs sheet : List ℕ)
      → written (train_answer bs order (length sheet)) (sheet_of former_book (facts_of (vehicles bs)) (order_of order)) sheet ≡ train_sheet bs order sheet
  train_sheet_kept bs sheet =
      ap (λ (bytes : List ℕ). written (train_answer bs order (length sheet)) bytes sheet)
      (sheet_kept (facts_of (vehicles bs)) (train_not_longer (vehicles bs)) (order_of order) ∙ sym (cross_sheet_kept (facts_of (vehicles bs))))

  -- nor of the sheet of engines with any account, save one with more than 700 m set to V in a length of at most 700 m
  pub account_sheet_kept : (bs : List ℕ) (hauled : Account) (sheet : List ℕ) → longer hauled.vlength hauled.length ≡ false
      → written (account_answer bs hauled order (length sheet)) (sheet_of former_book (facts_beside (vehicles bs) hauled) (order_of order)) sheet ≡ account_sheet bs hauled order sheet
  unfolding beside_of
  account_sheet_kept bs hauled sheet elsewhere =
      ap (λ (bytes : List ℕ). written (account_answer bs hauled order (length sheet)) bytes sheet)
      (sheet_kept (facts_beside (vehicles bs) hauled) elsewhere (order_of order) ∙ sym (cross_sheet_kept (facts_beside (vehicles bs) hauled)))

  -- so of none with an account that comes from a list
  pub listed_sheet_kept : (bs : List ℕ) (hauled : List Vehicle) (sheet : List ℕ)
      → written (account_answer bs (account_of hauled) order (length sheet)) (sheet_of former_book (facts_beside (vehicles bs) (account_of hauled)) (order_of order)) sheet
      ≡ account_sheet bs (account_of hauled) order sheet
  unfolding beside_of
  listed_sheet_kept bs hauled sheet = account_sheet_kept bs (account_of hauled) sheet (account_not_longer (vehicles bs) hauled)
