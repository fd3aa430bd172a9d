-- Request One: the theorems of routes, over the definitions of specs/. Assumes nothing.
use Prim.Native.Nat.{ℕ, ◌≤◌, ◌<◌}
use native.Mathlib.Omega.{arith}
use mathlib.Core.Path.{◌≡◌, refl, sym, ap, ap₂, ◌∙◌}
use mathlib.Core.Bool.{Bool, true, false, not, ◌&&◌, ◌||◌, cond, false≢true}
use mathlib.Core.List.{List, [], ◌∷◌, ◌++◌, map}
use borrow.Author.Tests.{lt-ltb, le-ltb, ltb-false, ne_eqb, eqb-false, not-false}
use lib.ListN.{length, take, drop, get_or, replicate}
use Rattle.std.specs.Prelude.{Result, Ok, Err, is_ok, IsOk, ⊤}
use Rattle.std.specs.Result.{result_unwrap_or}
use Rattle.lists.specs.Words.{◌is◌, ◌above◌, all, leading, Every, Case, case_at}
use Rattle.lists.specs.Refusals.{answered}
use Rattle.lists.proofs.Lists.{neither}
use Rattle.record.specs.Records.{record_count, records_of, is_whole}
use Rattle.record.specs.Vehicles.{good, vehicles, is_working}
use Rattle.record.specs.Mistyped.{Mistyped}
use Rattle.record.specs.declared.vehicle.Vehicle.{Vehicle}
use Rattle.account.specs.Accounts.{account_of}
use Rattle.account.specs.Portions.{accounted}
use Rattle.account.specs.Groupings.{Grouping, uncut, joined_bytes, BetweenRecords, GoodPortion, NoneRefused}
use Rattle.account.specs.declared.Account.{Account}
use Rattle.account.proofs.Demands.{any_grouping_done, portion_done_exactly}
use Rattle.facts.specs.Engines.{GoodEngines}
use Rattle.facts.specs.Facts.{facts_of, beside_of, facts_beside}
use Rattle.facts.specs.declared.Facts.{Facts}
use Rattle.record.specs.Ranges.{in_ranges}
use Rattle.order.specs.Orders.{cross_border_fields, no_order, order_of}
use Rattle.order.specs.declared.Book.{Book}
use Rattle.order.specs.declared.Book.TheVariants.{CrossBorder}
use Rattle.order.specs.declared.Order.{Order}
use Rattle.books.specs.Books.{book_of}
use Rattle.rules.specs.CrossBorder.{cross_border}
use Rattle.rules.specs.Grants.{granted_of, granted_number, granted_speed}
use Rattle.rules.specs.Withdrawn.{longer}
use Rattle.rules.proofs.Demands.{train_not_longer, account_not_longer}
use Rattle.sections.specs.Routes.{book_on, granted_on, speeds_on}
use Rattle.sections.specs.Sections.{sections_of, asked_in, book_named_in, good_section, leading_good}
use Rattle.sections.proofs.Demands.{sections_count, first_bad_section, cross_section_kept}
use Rattle.sheets.specs.Sheets.{sheet_length}
use Rattle.judge.specs.Answers.{number_of, place_of, refusal, order_refusals, record_refusals, engine_refusals, train_around, account_around, written}
use Rattle.judge.specs.Answers as of-sheets
use Rattle.judge.specs.Good.{GoodTrain, GoodWithAccount}
use Rattle.judge.specs.declared.Refusal.{Refusal}
use Rattle.judge.specs.declared.Refusal.TheVariants.{BadField, BadOrder, ShortSheet}
use Rattle.judge.proofs.Demands as judge
use Rattle.route.specs.Answers.{no_route, section_refusals, train_refusals, account_refusals, granted_for, speeds_for, route_by, train_answer, train_route, train_speeds, account_answer, account_route, account_speeds}
use Rattle.route.specs.Good.{GoodOrders}
use Rattle.route.specs.Shown.{Shows}
use Rattle.route.specs.Withdrawn.{formerly_granted, former_speeds}
use Rattle.route.proofs.Routes.{some_bad_lem, sections_good, sections_room, speeds_long}
use Rattle.route.proofs.Shown.{shows_done}
use Rattle.route.proofs.Withdrawn.{kept}
use Rattle.route.proofs.Single.{single_granted, single_speeds, single_answer, section_alone, section_order, every_there}

-- ---- demand 1: every input is answered
-- "Refusals, in 01's order": the numbers, and their places; judge's answered_in_order says which is given
pub train_numbers : (bs orders : List ℕ) (room : ℕ) → map (λ (r : Case Refusal). number_of r.gives) (train_refusals bs orders room) ≡ 1 ∷ 2 ∷ 3 ∷ 4 ∷ 4 ∷ 5 ∷ 11 ∷ 12 ∷ 13 ∷ 14 ∷ []
unfolding train_refusals
train_numbers bs orders room = refl

pub train_places : (bs orders : List ℕ) (room : ℕ)
    → map (λ (r : Case Refusal). place_of r.gives) (train_refusals bs orders room) ≡ 0 ∷ 0 ∷ leading good (records_of bs) ∷ 0 ∷ leading_good orders ∷ 0 ∷ 0 ∷ 0 ∷ 0 ∷ 0 ∷ []
unfolding train_refusals
train_places bs orders room = refl

pub account_numbers : (bs : List ℕ) (hauled : Account) (orders : List ℕ) (room : ℕ)
    → map (λ (r : Case Refusal). number_of r.gives) (account_refusals bs hauled orders room) ≡ 1 ∷ 7 ∷ 2 ∷ 3 ∷ 4 ∷ 4 ∷ 5 ∷ 11 ∷ 13 ∷ 14 ∷ []
unfolding account_refusals
account_numbers bs hauled orders room = refl

pub account_places : (bs : List ℕ) (hauled : Account) (orders : List ℕ) (room : ℕ)
    → map (λ (r : Case Refusal). place_of r.gives) (account_refusals bs hauled orders room) ≡ 0 ∷ 0 ∷ 0 ∷ leading good (records_of bs) ∷ 0 ∷ leading_good orders ∷ 0 ∷ 0 ∷ 0 ∷ 0 ∷ []
unfolding account_refusals
account_places bs hauled orders room = refl

-- "a refusal writes nothing and gives category 0"
no_category : (answer : Result ⊤ Refusal) (granted : ℕ) → is_ok answer ≡ false → result_unwrap_or (route_by answer granted) 0 ≡ 0
no_category (Ok x) granted e = absurd (false≢true (sym e))
no_category (Err r) granted e = refl

pub train_refused : (bs orders speeds : List ℕ) → is_ok (train_answer bs orders (length speeds)) ≡ false
    → (result_unwrap_or (train_route bs orders (length speeds)) 0 ≡ 0) × (train_speeds bs orders speeds ≡ speeds)
train_refused bs orders speeds e = (no_category (train_answer bs orders (length speeds)) _ e, judge.refused_unwritten (train_answer bs orders (length speeds)) (speeds_for (facts_of (vehicles bs)) orders) speeds e)

pub account_refused : (bs : List ℕ) (hauled : Account) (orders speeds : List ℕ) → is_ok (account_answer bs hauled orders (length speeds)) ≡ false
    → (result_unwrap_or (account_route bs hauled orders (length speeds)) 0 ≡ 0) × (account_speeds bs hauled orders speeds ≡ speeds)
account_refused bs hauled orders speeds e =
    (no_category (account_answer bs hauled orders (length speeds)) _ e, judge.refused_unwritten (account_answer bs hauled orders (length speeds)) (speeds_for (facts_beside (vehicles bs) hauled) orders) speeds e)

-- "for each section one byte … and no byte beyond the last section's"
pub one_byte_a_section : (f : Facts) (orders : List ℕ) → length (speeds_for f orders) ≡ record_count orders
one_byte_a_section = speeds_long

-- 4 with its place: the first section with a field out of range, an asked category or a book other than the first section's
pub bad_section : (orders : List ℕ) (room i : ℕ) → i < record_count orders → all (good_section (asked_in orders) (book_named_in orders)) (take i (records_of orders)) ≡ true
    → good_section (asked_in orders) (book_named_in orders) (get_or (records_of orders) i []) ≡ false → case_at (BadOrder 0) (section_refusals orders room) 1 ≡ refusal (BadOrder i) true
bad_section orders room i h before bad =
    let place = first_bad_section orders i h before bad in
    ap₂ (λ (k : ℕ) (b : Bool). refusal (BadOrder k) b) place (sym (some_bad_lem orders i (sym place)) ∙ lt-ltb i (record_count orders) h)

-- so where none of 1, 2, 3 (of engines with an account 1, 7, 2, 3) applies and there are 1 to 64 whole orders, a route whose first bad section is i is answered 4 with place i, category 0, and the bytes lent are as they were
module _ (orders speeds : List ℕ) (i : ℕ) (counted : no_route orders ≡ false) (h : i < record_count orders) (before : all (good_section (asked_in orders) (book_named_in orders)) (take i (records_of orders)) ≡ true)
    (bad : good_section (asked_in orders) (book_named_in orders) (get_or (records_of orders) i []) ≡ false) where
  -- the second of the orders' refusals
  refused_there : answered (section_refusals orders (length speeds)) ≡ Err (BadOrder i)
  refused_there =
      ap₂ (λ (b : Bool) (c : Case Refusal). cond b (Err (BadOrder 0)) (cond c.applies (Err c.gives) (answered (refusal ShortSheet (record_count orders above length speeds) ∷ []))))
      counted (bad_section orders (length speeds) i h before bad)

  pub train_bad_section : (bs : List ℕ) → Every (λ r. r.applies ≡ false) (record_refusals bs)
      → (train_route bs orders (length speeds) ≡ Err (BadOrder i)) × (train_speeds bs orders speeds ≡ speeds)
  unfolding train_refusals
  train_bad_section bs none =
      let a = judge.train_lent_refused bs (section_refusals orders (length speeds)) none (ap is_ok refused_there) ∙ refused_there in
      (ap (λ (x : Result ⊤ Refusal). route_by x (granted_for (facts_of (vehicles bs)) orders)) a, (train_refused bs orders speeds (ap is_ok a)).1)

  pub account_bad_section : (bs : List ℕ) (hauled : Account) → Every (λ r. r.applies ≡ false) (engine_refusals bs hauled)
      → (account_route bs hauled orders (length speeds) ≡ Err (BadOrder i)) × (account_speeds bs hauled orders speeds ≡ speeds)
  unfolding account_refusals
  account_bad_section bs hauled none =
      let a = judge.account_lent_refused bs hauled (section_refusals orders (length speeds)) none (ap is_ok refused_there) ∙ refused_there in
      (ap (λ (x : Result ⊤ Refusal). route_by x (granted_for (facts_beside (vehicles bs) hauled) orders)) a, (account_refused bs hauled orders speeds (ap is_ok a)).1)

-- request Two: of records that 1, 2 and 3 do not refuse (engines with an account: 1, 7, 2 and 3), with one digit of one number mistyped: 3 at that record's place, whatever the orders, category 0, and the bytes lent are as they were
pub train_mistyped_answered : (bs other : List ℕ) (i : ℕ) → Mistyped bs other i → (orders speeds : List ℕ) → Every (λ r. r.applies ≡ false) (record_refusals bs)
    → (train_route other orders (length speeds) ≡ Err (BadField i)) × (train_speeds other orders speeds ≡ speeds)
unfolding train_refusals
train_mistyped_answered bs other i m orders speeds none =
    let a = judge.train_mistyped bs other i m (section_refusals orders (length speeds)) none in
    (ap (λ (x : Result ⊤ Refusal). route_by x (granted_for (facts_of (vehicles other)) orders)) a, (train_refused other orders speeds (ap is_ok a)).1)

pub account_mistyped_answered : (bs other : List ℕ) (i : ℕ) → Mistyped bs other i → (hauled : Account) (orders speeds : List ℕ) → Every (λ r. r.applies ≡ false) (engine_refusals bs hauled)
    → (account_route other hauled orders (length speeds) ≡ Err (BadField i)) × (account_speeds other hauled orders speeds ≡ speeds)
unfolding account_refusals
account_mistyped_answered bs other i m hauled orders speeds none =
    let a = judge.account_mistyped bs other i m hauled (section_refusals orders (length speeds)) none in
    (ap (λ (x : Result ⊤ Refusal). route_by x (granted_for (facts_beside (vehicles other) hauled) orders)) a, (account_refused other hauled orders speeds (ap is_ok a)).1)

-- 4 at 0, 1, 64 and 65 sections and for 25 bytes, and 5 for two sections with room for one and for two
pub section_limits :
    (map (λ (n : ℕ). (case_at (BadOrder 0) (section_refusals (replicate n 0) 0) 0).applies) (0 ∷ 24 ∷ 25 ∷ 1536 ∷ 1560 ∷ []) ≡ true ∷ false ∷ true ∷ false ∷ true ∷ [])
    × (map (λ (room : ℕ). (case_at (BadOrder 0) (section_refusals (replicate 48 0) room) 2).applies) (1 ∷ 2 ∷ []) ≡ true ∷ false ∷ [])
section_limits = (refl, refl)

-- a route is done exactly when the train, or the engines with an account, are good as for a sheet, and so are its orders and the room
module _ (orders : List ℕ) (room : ℕ) where
  orders_good : Every (λ c. c.applies ≡ false) (section_refusals orders room) → GoodOrders orders room
  orders_good t =
      let whole = neither (not (is_whole orders) || record_count orders is 0) (record_count orders above 64) t.0 in
      let some = neither (not (is_whole orders)) (record_count orders is 0) whole.0 in
      record {
        whole = not-false (is_whole orders) some.0;
        some = above_zero (record_count orders) (eqb-false (record_count orders) 0 some.1);
        few = ltb-false 64 (record_count orders) whole.1;
        each = not-false (all (good_section (asked_in orders) (book_named_in orders)) (records_of orders)) t.1.0;
        fits = ltb-false room (record_count orders) t.1.1.0;
      }
    where
      above_zero : (n : ℕ) → (n ≡ 0 → ⊥) → 0 < n
      above_zero n z = omega arith

  good_orders : GoodOrders orders room → Every (λ c. c.applies ≡ false) (section_refusals orders room)
  good_orders g =
      let some = ne_eqb (record_count orders) 0 (λ z. omega (arith, z, g.some)) in
      let counted = ap₂ (λ (x y : Bool). not x || y || record_count orders above 64) g.whole some ∙ le-ltb 64 (record_count orders) g.few in
      (counted, (ap not g.each, (le-ltb room (record_count orders) g.fits, tt)))

  pub train_done_exactly : (bs : List ℕ)
      → (train_answer bs orders room ≡ Ok tt → GoodTrain bs × GoodOrders orders room)
      × (GoodTrain bs → GoodOrders orders room → train_answer bs orders room ≡ Ok tt)
  unfolding train_refusals
  train_done_exactly bs =
      let around = judge.train_done_around bs (section_refusals orders room) in
      (λ done. let g = around.0 done in (g.0, orders_good g.1), λ g l. around.1 g (good_orders l))

  pub account_done_exactly : (bs : List ℕ) (hauled : Account)
      → (account_answer bs hauled orders room ≡ Ok tt → GoodWithAccount bs hauled × GoodOrders orders room)
      × (GoodWithAccount bs hauled → GoodOrders orders room → account_answer bs hauled orders room ≡ Ok tt)
  unfolding account_refusals
  account_done_exactly bs hauled =
      let around = judge.account_done_around bs hauled (section_refusals orders room) in
      (λ done. let g = around.0 done in (g.0, orders_good g.1), λ g l. around.1 g (good_orders l))

-- where a route is done, nothing is refused of its orders and the room
train_orders : (bs orders : List ℕ) (room : ℕ) → train_answer bs orders room ≡ Ok tt → Every (λ c. c.applies ≡ false) (section_refusals orders room)
unfolding train_refusals
train_orders bs orders room done = judge.train_lent bs (section_refusals orders room) (ap is_ok done)

account_orders : (bs : List ℕ) (hauled : Account) (orders : List ℕ) (room : ℕ) → account_answer bs hauled orders room ≡ Ok tt → Every (λ c. c.applies ≡ false) (section_refusals orders room)
unfolding account_refusals
account_orders bs hauled orders room done = judge.account_lent bs hauled (section_refusals orders room) (ap is_ok done)

-- ---- demand 2 over every section: what a route that is done gives
pub train_shows : (bs orders speeds : List ℕ) → train_answer bs orders (length speeds) ≡ Ok tt
    → Shows (facts_of (vehicles bs)) (sections_of orders) (result_unwrap_or (train_route bs orders (length speeds)) 0) speeds (train_speeds bs orders speeds)
train_shows bs orders speeds done =
    shows_done (train_answer bs orders (length speeds)) (facts_of (vehicles bs)) orders speeds done
    (sections_good orders (length speeds) (train_orders bs orders (length speeds) done))
    (sections_room orders (length speeds) (train_orders bs orders (length speeds) done))

pub account_shows : (bs : List ℕ) (hauled : Account) (orders speeds : List ℕ) → account_answer bs hauled orders (length speeds) ≡ Ok tt
    → Shows (facts_beside (vehicles bs) hauled) (sections_of orders) (result_unwrap_or (account_route bs hauled orders (length speeds)) 0) speeds (account_speeds bs hauled orders speeds)
account_shows bs hauled orders speeds done =
    shows_done (account_answer bs hauled orders (length speeds)) (facts_beside (vehicles bs) hauled) orders speeds done
    (sections_good orders (length speeds) (account_orders bs hauled orders (length speeds) done))
    (sections_room orders (length speeds) (account_orders bs hauled orders (length speeds) done))

-- ---- "one section must give today's granted category and speed": the answer of the sheet, and its bytes 1 and 2
module _ (order : List ℕ) (whole : length order ≡ 24) (sheet : List ℕ) (fits : sheet_length (order_of order).book ≤ length sheet) (first : ℕ) (rest : List ℕ) where
  pub one_section_answer : (bs : List ℕ) → train_answer bs order (length (first ∷ rest)) ≡ of-sheets.train_answer bs order (length sheet)
  unfolding train_refusals of-sheets.train_refusals
  one_section_answer bs =
      judge.train_around_same bs (section_refusals order (length (first ∷ rest))) (order_refusals order (length sheet))
      (single_answer order whole (length (first ∷ rest)) (length sheet) (omega arith) fits)

  pub one_section_granted : (bs : List ℕ) → of-sheets.train_answer bs order (length sheet) ≡ Ok tt
      → (result_unwrap_or (train_route bs order (length (first ∷ rest))) 0 ≡ get_or (of-sheets.train_sheet bs order sheet) 1 0)
      × (train_speeds bs order (first ∷ rest) ≡ get_or (of-sheets.train_sheet bs order sheet) 2 0 ∷ rest)
  one_section_granted bs done =
      let shown = judge.train_shows bs order sheet done in
      let same = one_section_answer bs ∙ done in (
        ap (λ (a : Result ⊤ Refusal). result_unwrap_or (route_by a (granted_for (facts_of (vehicles bs)) order)) 0) same ∙ single_granted order whole (facts_of (vehicles bs)) ∙ sym shown.granted,
        ap (λ (a : Result ⊤ Refusal). written a (speeds_for (facts_of (vehicles bs)) order) (first ∷ rest)) same
            ∙ ap (λ (bytes : List ℕ). bytes ++ drop (length bytes) (first ∷ rest)) (single_speeds order whole (facts_of (vehicles bs)))
            ∙ ap (λ (s : ℕ). s ∷ rest) (sym shown.speed),
      )

  pub one_section_of_account : (bs : List ℕ) (hauled : Account) → account_answer bs hauled order (length (first ∷ rest)) ≡ of-sheets.account_answer bs hauled order (length sheet)
  unfolding account_refusals of-sheets.account_refusals
  one_section_of_account bs hauled =
      judge.account_around_same bs hauled (section_refusals order (length (first ∷ rest))) (order_refusals order (length sheet))
      (single_answer order whole (length (first ∷ rest)) (length sheet) (omega arith) fits)

  pub one_section_granted_of_account : (bs : List ℕ) (hauled : Account) → of-sheets.account_answer bs hauled order (length sheet) ≡ Ok tt
      → (result_unwrap_or (account_route bs hauled order (length (first ∷ rest))) 0 ≡ get_or (of-sheets.account_sheet bs hauled order sheet) 1 0)
      × (account_speeds bs hauled order (first ∷ rest) ≡ get_or (of-sheets.account_sheet bs hauled order sheet) 2 0 ∷ rest)
  one_section_granted_of_account bs hauled done =
      let f = facts_beside (vehicles bs) hauled in
      let shown = judge.account_shows bs hauled order sheet done in
      let same = one_section_of_account bs hauled ∙ done in (
        ap (λ (a : Result ⊤ Refusal). result_unwrap_or (route_by a (granted_for f order)) 0) same ∙ single_granted order whole f ∙ sym shown.granted,
        ap (λ (a : Result ⊤ Refusal). written a (speeds_for f order) (first ∷ rest)) same
            ∙ ap (λ (bytes : List ℕ). bytes ++ drop (length bytes) (first ∷ rest)) (single_speeds order whole f)
            ∙ ap (λ (s : ℕ). s ∷ rest) (sym shown.speed),
      )

-- what an order is granted by the book that it names
alone_by : (f : Facts) (x o : Order) → x ≡ o → (b : Book) → x.book ≡ b → granted_of (book_of b) f x ≡ granted_of (book_of o.book) f o
alone_by f x o e b named = ap (λ (b : Book). granted_of (book_of b) f x) (sym named) ∙ ap (λ (y : Order). granted_of (book_of y.book) f y) e

-- ---- a section of a route that is done, alone: its order has a sheet, and where that grants the route's category its speed is the section's byte
module _ (orders speeds sheet : List ℕ) (i : ℕ) (fits : sheet_length (order_of (get_or (records_of orders) i [])).book ≤ length sheet) (there : i < record_count orders) where
  abbrev order : List ℕ
  order = get_or (records_of orders) i []

  module _ (bs : List ℕ) (done : train_answer bs orders (length speeds) ≡ Ok tt) where
    pub section_has_a_sheet : of-sheets.train_answer bs order (length sheet) ≡ Ok tt
    unfolding train_refusals of-sheets.train_refusals
    section_has_a_sheet =
        sym (judge.train_around_same bs (section_refusals orders (length speeds)) (order_refusals order (length sheet))
        (section_alone orders (length speeds) (length sheet) i there fits (train_orders bs orders (length speeds) done)))
        ∙ done

    pub section_sheet : get_or (of-sheets.train_sheet bs order sheet) 1 0 ≡ result_unwrap_or (train_route bs orders (length speeds)) 0 → get_or (train_speeds bs orders speeds) i 0 ≡ get_or (of-sheets.train_sheet bs order sheet) 2 0
    section_sheet same =
        let shown = judge.train_shows bs order sheet section_has_a_sheet in
        let o = section_order orders i there in
        let all = train_shows bs orders speeds done in
        let within : i < length (sections_of orders) = omega (arith, there, sections_count orders) in
        let same-grant = alone_by (facts_of (vehicles bs)) (get_or (sections_of orders) i no_order) (order_of order) o (book_on (sections_of orders)) (every_there (λ (x : Order). x.book ≡ book_on (sections_of orders)) (sections_of orders) i within all.books) in
        all.alone i within (ap granted_number same-grant ∙ sym shown.granted ∙ same) ∙ ap granted_speed same-grant ∙ sym shown.speed

  module _ (bs : List ℕ) (hauled : Account) (done : account_answer bs hauled orders (length speeds) ≡ Ok tt) where
    pub section_has_a_sheet_of_account : of-sheets.account_answer bs hauled order (length sheet) ≡ Ok tt
    unfolding account_refusals of-sheets.account_refusals
    section_has_a_sheet_of_account =
        sym (judge.account_around_same bs hauled (section_refusals orders (length speeds)) (order_refusals order (length sheet))
        (section_alone orders (length speeds) (length sheet) i there fits (account_orders bs hauled orders (length speeds) done)))
        ∙ done

    pub section_sheet_of_account : get_or (of-sheets.account_sheet bs hauled order sheet) 1 0 ≡ result_unwrap_or (account_route bs hauled orders (length speeds)) 0
        → get_or (account_speeds bs hauled orders speeds) i 0 ≡ get_or (of-sheets.account_sheet bs hauled order sheet) 2 0
    section_sheet_of_account same =
        let f = facts_beside (vehicles bs) hauled in
        let shown = judge.account_shows bs hauled order sheet section_has_a_sheet_of_account in
        let o = section_order orders i there in
        let all = account_shows bs hauled orders speeds done in
        let within : i < length (sections_of orders) = omega (arith, there, sections_count orders) in
        let same-grant = alone_by f (get_or (sections_of orders) i no_order) (order_of order) o (book_on (sections_of orders)) (every_there (λ (x : Order). x.book ≡ book_on (sections_of orders)) (sections_of orders) i within all.books) in
        all.alone i within (ap granted_number same-grant ∙ sym shown.granted ∙ same) ∙ ap granted_speed same-grant ∙ sym shown.speed

-- ---- "Demand 3 stands unchanged, since the account knows no line"
-- with one or two good working engines in front, portions cut anywhere between records and joined in any grouping give the route of the uncut train
module _ (engines : List ℕ) (g : Grouping ℕ) (orders speeds : List ℕ) (e : GoodEngines engines) (working : all is_working (vehicles engines) ≡ true) (cut : BetweenRecords g) where
  pub route_from_account : IsOk (accounted (uncut g)) → (joined : Account) → joined_bytes g ≡ Ok joined
      → (account_route engines joined orders (length speeds) ≡ train_route (engines ++ uncut g) orders (length speeds))
      × (account_speeds engines joined orders speeds ≡ train_speeds (engines ++ uncut g) orders speeds)
  unfolding account_refusals train_refusals
  route_from_account done joined gives =
      let a = judge.answer_from_account engines g e working cut done joined gives (section_refusals orders (length speeds)) in
      let f = judge.facts_from_account engines g e working cut done joined gives in
      (ap₂ (λ (x : Result ⊤ Refusal) (h : Facts). route_by x (granted_for h orders)) a f, ap₂ (λ (x : Result ⊤ Refusal) (h : Facts). written x (speeds_for h orders) speeds) a f)

  -- from the records alone: each good, none a working engine, at most 200; then no call is refused
  pub route_from_portions : GoodPortion (uncut g)
      → NoneRefused g
      × (joined_bytes g ≡ Ok (account_of (vehicles (uncut g))))
      × (account_route engines (account_of (vehicles (uncut g))) orders (length speeds) ≡ train_route (engines ++ uncut g) orders (length speeds))
      × (account_speeds engines (account_of (vehicles (uncut g))) orders speeds ≡ train_speeds (engines ++ uncut g) orders speeds)
  route_from_portions good =
      let d = any_grouping_done g cut good in
      let s = route_from_account (ap is_ok ((portion_done_exactly (uncut g)).1 good)) (account_of (vehicles (uncut g))) d.1 in
      (d.0, d.1, s.0, s.1)

-- ---- a route whose first section names the cross-border book: the domestic book has no say in what it is answered and given
module _ (orders : List ℕ) (cross : book_on (sections_of orders) ≡ CrossBorder) where
  -- a section is good by the cross-border table and the asked category alone
  abbrev cross_section : List ℕ → Bool
  cross_section r = in_ranges cross_border_fields r && (order_of r).asked is asked_in orders

  -- 4, and 4 with its place, by such a test of a section, and 5
  abbrev refused_by : (List ℕ → Bool) → ℕ → List (Case Refusal)
  refused_by good room =
      refusal (BadOrder 0) (no_route orders)
      ∷ refusal (BadOrder (leading good (records_of orders))) (not (all good (records_of orders)))
      ∷ refusal ShortSheet (record_count orders above room)
      ∷ []

  -- a section that names the other book fails its table, so that the book need not be asked
  pub cross_refusals_kept : (room : ℕ) → section_refusals orders room ≡ refused_by cross_section room
  cross_refusals_kept room = ap (λ (good : List ℕ → Bool). refused_by good room) (ap (good_section (asked_in orders)) cross ∙ (λ i r. cross_section_kept (asked_in orders) r i))

  -- the category granted, and the sections' bytes, by the cross-border book's rules
  pub cross_granted_kept : (f : Facts) → granted_for f orders ≡ (granted_number (granted_on cross_border f (sections_of orders)))
  unfolding granted_for book_of
  cross_granted_kept f = ap (λ (b : Book). (granted_number (granted_on (book_of b) f (sections_of orders)))) cross

  pub cross_speeds_kept : (f : Facts) → speeds_for f orders ≡ speeds_on cross_border (granted_number (granted_on cross_border f (sections_of orders))) f (sections_of orders)
  unfolding speeds_for granted_for book_of
  cross_speeds_kept f = ap (λ (b : Book). speeds_on (book_of b) (granted_number (granted_on (book_of b) f (sections_of orders))) f (sections_of orders)) cross

  -- so the whole call, of a train and of engines with an account
  pub cross_train_kept : (bs speeds : List ℕ)
      → (train_route bs orders (length speeds) ≡ route_by (answered (train_around bs (refused_by cross_section (length speeds)))) (granted_number (granted_on cross_border (facts_of (vehicles bs)) (sections_of orders))))
      × (train_speeds bs orders speeds
      ≡ written (answered (train_around bs (refused_by cross_section (length speeds)))) (speeds_on cross_border (granted_number (granted_on cross_border (facts_of (vehicles bs)) (sections_of orders))) (facts_of (vehicles bs)) (sections_of orders)) speeds)
  unfolding train_refusals
  cross_train_kept bs speeds =
      let f = facts_of (vehicles bs) in
      let lent = cross_refusals_kept (length speeds) in
      ((λ i. route_by (answered (train_around bs (lent i))) (cross_granted_kept f i)), λ i. written (answered (train_around bs (lent i))) (cross_speeds_kept f i) speeds)

  pub cross_account_kept : (bs : List ℕ) (hauled : Account) (speeds : List ℕ)
      → (account_route bs hauled orders (length speeds)
      ≡ route_by (answered (account_around bs hauled (refused_by cross_section (length speeds)))) (granted_number (granted_on cross_border (facts_beside (vehicles bs) hauled) (sections_of orders))))
      × (account_speeds bs hauled orders speeds
      ≡ written (answered (account_around bs hauled (refused_by cross_section (length speeds))))
      (speeds_on cross_border (granted_number (granted_on cross_border (facts_beside (vehicles bs) hauled) (sections_of orders))) (facts_beside (vehicles bs) hauled) (sections_of orders)) speeds)
  unfolding account_refusals
  cross_account_kept bs hauled speeds =
      let f = facts_beside (vehicles bs) hauled in
      let lent = cross_refusals_kept (length speeds) in
      ((λ i. route_by (answered (account_around bs hauled (lent i))) (cross_granted_kept f i)), λ i. written (answered (account_around bs hauled (lent i))) (cross_speeds_kept f i) speeds)

  -- ---- rule 46, withdrawn by request Five: no train's route is another than by the former list
  pub train_route_kept : (bs speeds : List ℕ)
      → (route_by (train_answer bs orders (length speeds)) (formerly_granted (facts_of (vehicles bs)) orders) ≡ train_route bs orders (length speeds))
      × (written (train_answer bs orders (length speeds)) (former_speeds (facts_of (vehicles bs)) orders) speeds ≡ train_speeds bs orders speeds)
  train_route_kept bs speeds = kept (facts_of (vehicles bs)) (train_not_longer (vehicles bs)) orders cross (train_answer bs orders (length speeds)) speeds

  -- nor that of engines with any account, save one with more than 700 m set to V in a length of at most 700 m
  pub account_route_kept : (bs : List ℕ) (hauled : Account) (speeds : List ℕ) → longer hauled.vlength hauled.length ≡ false
      → (route_by (account_answer bs hauled orders (length speeds)) (formerly_granted (facts_beside (vehicles bs) hauled) orders) ≡ account_route bs hauled orders (length speeds))
      × (written (account_answer bs hauled orders (length speeds)) (former_speeds (facts_beside (vehicles bs) hauled) orders) speeds ≡ account_speeds bs hauled orders speeds)
  unfolding beside_of
  account_route_kept bs hauled speeds elsewhere = kept (facts_beside (vehicles bs) hauled) elsewhere orders cross (account_answer bs hauled orders (length speeds)) speeds

  -- so of none with an account that comes from a list
  pub listed_route_kept : (bs : List ℕ) (hauled : List Vehicle) (speeds : List ℕ)
      → (route_by (account_answer bs (account_of hauled) orders (length speeds)) (formerly_granted (facts_beside (vehicles bs) (account_of hauled)) orders)
      ≡ account_route bs (account_of hauled) orders (length speeds))
      × (written (account_answer bs (account_of hauled) orders (length speeds)) (former_speeds (facts_beside (vehicles bs) (account_of hauled)) orders) speeds
      ≡ account_speeds bs (account_of hauled) orders speeds)
  unfolding beside_of
  listed_route_kept bs hauled speeds = account_route_kept bs (account_of hauled) speeds (account_not_longer (vehicles bs) hauled)
