-- A route of one section: what a sheet of its order gives. Assumes nothing.
use Prim.Native.Nat.{ℕ, zero, suc, ◌/◌, ◌≤◌, ◌<◌}
use native.Mathlib.Omega.{arith}
use mathlib.Core.Path.{◌≡◌, refl, sym, ap, ◌∙◌}
use mathlib.Core.Bool.{Bool, true, false, not, ◌&&◌, cond}
use mathlib.Core.List.{List, [], ◌∷◌, map}
use borrow.Author.Tests.{le-ltb}
use lib.Dec.{ltb}
use lib.ListN.{length, get_or}
use lib.Seq.{take_all}
use Rattle.std.specs.Prelude.{Result, Ok, Err, ⊤}
use Rattle.lists.specs.Words.{◌is◌, all, leading, Every}
use Rattle.lists.specs.Refusals.{answered}
use Rattle.lists.proofs.Lists.{both, all_at}
use Rattle.record.proofs.Records.{length_records}
use Rattle.record.specs.Records.{records, record_count, records_of}
use Rattle.facts.specs.declared.Facts.{Facts}
use Rattle.order.specs.Orders.{good_order, order_of, no_order}
use Rattle.order.specs.declared.Order.{Order}
use Rattle.rules.specs.Grants.{granted_of, granted_number, granted_speed}
use Rattle.books.specs.Books.{book_of}
use Rattle.books.proofs.Demands.{book_sound}
use Rattle.sections.specs.Routes.{granted_on, speeds_on}
use Rattle.sections.specs.Sections.{sections_of, asked_in, book_named_in, same_book, good_section}
use Rattle.sections.proofs.Demands.{one_section, one_section_speed, first_asks_itself}
use Rattle.sheets.specs.Sheets.{sheet_length}
use Rattle.judge.specs.Answers.{order_refusals}
use Rattle.judge.specs.declared.Refusal.{Refusal}
use Rattle.judge.specs.declared.Refusal.TheVariants.{BadOrder, ShortSheet}
use Rattle.judge.proofs.Demands.{done_when_none_applies}
use Rattle.route.specs.Answers.{no_route, section_refusals, book_for, granted_for, speeds_for}
use Rattle.route.proofs.Routes.{sections_good}

module _ (order : List ℕ) (whole : length order ≡ 24) where
  one_record : records_of order ≡ order ∷ []
  unfolding records
  one_record = ap (λ (n : ℕ). records n order) (count_one (length order) whole) ∙ ap (λ (r : List ℕ). r ∷ []) (take_all 24 order (omega arith))
    where
      count_one : (n : ℕ) → n ≡ 24 → record_count order ≡ 1
      count_one n e = omega arith

  one_order : sections_of order ≡ order_of order ∷ []
  one_order = ap (map order_of) one_record

  pub single_granted : (f : Facts) → granted_for f order ≡ granted_number (granted_of (book_of (order_of order).book) f (order_of order))
  unfolding granted_for
  single_granted f =
      ap (λ (os : List Order). granted_number (granted_on (book_for os) f os)) one_order
      ∙ ap granted_number (one_section (book_of (order_of order).book) f (order_of order))

  pub single_speeds : (f : Facts) → speeds_for f order ≡ granted_speed (granted_of (book_of (order_of order).book) f (order_of order)) ∷ []
  unfolding speeds_for granted_for
  single_speeds f = ap (λ (os : List Order). speeds_on (book_for os) (granted_number (granted_on (book_for os) f os)) f os) one_order ∙ one_section_speed (book_of (order_of order).book) f (book_sound (order_of order).book) (order_of order)

  abbrev same : List ℕ → Bool
  same = good_section (asked_in order) (book_named_in order)

  same_good : same order ≡ good_order order
  same_good =
      ap (λ (rs : List (List ℕ)). same (get_or rs 0 [])) (sym one_record)
      ∙ first_asks_itself order
      ∙ ap (λ (rs : List (List ℕ)). good_order (get_or rs 0 [])) one_record

  one_route : no_route order ≡ false
  one_route = rw whole

  -- the three tests, of so many records
  abbrev tests : Bool → List (List ℕ) → Bool → Result ⊤ Refusal
  tests x rs y = cond x (Err (BadOrder 0)) (cond (not (all same rs)) (Err (BadOrder (leading same rs))) (cond y (Err ShortSheet) (Ok tt)))

  by_the_order : tests false (order ∷ []) false ≡ cond (not (good_order order)) (Err (BadOrder 0)) (Ok tt)
  unfolding all
  by_the_order = go (same order) ∙ ap (λ (b : Bool). cond (not b) (Err (BadOrder 0)) (Ok tt)) same_good
    where
      go : (b : Bool) → cond {A = Result ⊤ Refusal} (not (b && true)) (Err (BadOrder (cond b 1 0))) (Ok tt) ≡ cond (not b) (Err (BadOrder 0)) (Ok tt)
      go true = refl
      go false = refl

  -- 4 with place 0 exactly when a sheet's order is refused so, where both have room
  pub single_answer : (room sheet : ℕ) → 1 ≤ room → sheet_length (order_of order).book ≤ sheet → answered (section_refusals order room) ≡ answered (order_refusals order sheet)
  single_answer room sheet enough fits =
      let room-for-one = ap (λ (n : ℕ). ltb room (n / 24)) whole ∙ le-ltb room 1 enough in
      ◌∙◌ {b = tests false (order ∷ []) false}
      (λ i. tests (one_route i) (one_record i) (room-for-one i))
      (by_the_order ∙ ap (λ (b : Bool). cond (not (good_order order)) (Err (BadOrder 0)) (cond b (Err ShortSheet) (Ok tt))) (sym (le-ltb sheet (sheet_length (order_of order).book) fits)))

-- ---- one of many sections, alone
pub every_there : (P : Order → Type 0) (os : List Order) (i : ℕ) → i < length os → Every P os → P (get_or os i no_order)
every_there P [] i h each = absurd (omega arith)
every_there P (o ∷ os) zero h each = each.0
every_there P (o ∷ os) (suc i) h each = every_there P os i (omega arith) each.1

mapped : (rs : List (List ℕ)) (i : ℕ) → i < length rs → get_or (map order_of rs) i no_order ≡ order_of (get_or rs i [])
mapped [] i h = absurd (omega arith)
mapped (r ∷ rs) zero h = refl
mapped (r ∷ rs) (suc i) h = mapped rs i (omega arith)

module _ (orders : List ℕ) where
  pub section_order : (i : ℕ) → i < record_count orders → get_or (sections_of orders) i no_order ≡ order_of (get_or (records_of orders) i [])
  section_order i there = mapped (records_of orders) i (omega (arith, there, length_records (record_count orders) orders))

  -- where nothing is refused of a route's orders, nothing is of one of them and a sheet
  pub section_alone : (room sheet i : ℕ) → i < record_count orders → sheet_length (order_of (get_or (records_of orders) i [])).book ≤ sheet → Every (λ c. c.applies ≡ false) (section_refusals orders room)
      → answered (section_refusals orders room) ≡ answered (order_refusals (get_or (records_of orders) i []) sheet)
  unfolding good_section
  section_alone room sheet i there fits none =
      let p = good_section (asked_in orders) (book_named_in orders) in
      let passes = all_at p (records_of orders) i [] (omega (arith, there, length_records (record_count orders) orders)) (sections_good orders room none) in
      let o = order_of (get_or (records_of orders) i []) in
      let asked = (both (good_order (get_or (records_of orders) i []) && o.asked is asked_in orders) (same_book o.book (book_named_in orders)) passes).0 in
      let good = (both (good_order (get_or (records_of orders) i [])) (o.asked is asked_in orders) asked).0 in
      done_when_none_applies (section_refusals orders room) none
      ∙ sym (done_when_none_applies (order_refusals (get_or (records_of orders) i []) sheet) (ap not good, (le-ltb sheet (sheet_length o.book) fits, tt)))
