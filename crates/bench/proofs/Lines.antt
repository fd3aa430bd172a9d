-- Laws of SHEET's line: the shortest input, how long it is, and that what is judged makes it. Assumes nothing.
use Prim.Native.Nat.{ℕ, ◌≤◌}
use mathlib.Core.Path.{◌≡◌, refl, sym, ap, ◌∙◌}
use mathlib.Core.Bool.{true}
use borrow.Author.Tests.{not-false}
use mathlib.Core.List.{List, [], ◌∷◌, ◌++◌}
use native.Mathlib.Omega.{arith}
use lib.ListN.{length, take, length-take, length-append, drop_of_length-le}
use Rattle.lists.specs.Words.{◌is◌}
use Rattle.record.specs.Vehicles.{vehicles}
use Rattle.order.specs.Orders.{good_order, order_of, order_read}
use Rattle.order.specs.declared.Order.{Order}
use Rattle.order.proofs.Demands.{read_good}
use Rattle.sheets.specs.Sheets.{sheet_length}
use Rattle.facts.specs.Facts.{facts_of}
use Rattle.judge.specs.Answers.{answer_number, answer_place, order_refusals, train_refusals, train_answer, train_sheet, sheet_for, written}
use Rattle.judge.specs.declared.Refusal.{Refusal}
use Rattle.judge.specs.declared.Refusal.TheVariants.{NotWhole}
use Rattle.std.specs.Prelude.{Result, Err, is_ok, ⊤}
use Rattle.judge.proofs.Demands.{sheet_bytes_lem, length_most, train_lent, done_number}
use Rattle.bench.specs.Texts.{glyph_of, decimal, field, last_field}
use Rattle.bench.specs.Lines.{order_part, vehicle_part, answer_of, sheet_in, answer_fields, line_by, line_of}
use Rattle.bench.proofs.Texts.{field_length, last_length, last_shown}

-- ---- up to 24 bytes is refusal 1, whatever they are: "1 0 -"
vehicles_none : (input : List ℕ) → length input ≤ 24 → vehicle_part input ≡ []
vehicles_none input h =
    let e : length (take 4848 input) ≤ 24 = omega (arith, length-take 4848 input) in
    drop_of_length-le (take 4848 input) e

pub short_refused : (input : List ℕ) → length input ≤ 24 → answer_of input ≡ Err NotWhole
unfolding answer_of train_refusals
short_refused input h = rw (vehicles_none input h) refl

pub short_line : (input : List ℕ) → length input ≤ 24 → line_of input ≡ 49 ∷ 32 ∷ 48 ∷ 32 ∷ 45 ∷ 10 ∷ []
unfolding line_of line_by answer_fields last_field decimal glyph_of
short_line input h = rw (short_refused input h) refl

-- ---- how long
pub answer_length : (number place : ℕ) → length (answer_fields number place) ≤ 42
unfolding answer_fields
answer_length number place = omega (arith, length-append (field number) (field place), field_length number, field_length place)

pub line_length : (number place : ℕ) (sheet : List ℕ) → length sheet ≤ 33 → length (line_by number place sheet) ≤ 109
unfolding line_by
line_length number place sheet h =
    omega (arith, length-append (answer_fields number place) (last_field (number is 0) sheet), answer_length number place, last_length (number is 0) sheet)

-- no line is longer
pub line_bound : (input : List ℕ) → length (line_of input) ≤ 109
unfolding line_of sheet_in
line_bound input =
    let o = order_of (order_part input) in
    line_length (answer_number (answer_of input)) (answer_place (answer_of input)) (sheet_in input) (omega (arith, sheet_bytes_lem (facts_of (vehicles (vehicle_part input))) o, length_most o.book))

-- ---- what the judging library answers, and writes into a blank sheet, makes the line of the input
module _ (input vs os blank : List ℕ) {answer : Result ⊤ Refusal} {sheet : List ℕ} (e : length blank ≡ 33) (v : vs ≡ vehicle_part input) (o : os ≡ order_part input)
    (a : answer ≡ train_answer vs os (length blank)) (s : sheet ≡ train_sheet vs os blank) where
  answered : answer ≡ answer_of input
  unfolding answer_of
  answered = a ∙ (λ i. train_answer (v i) (o i) (e i))

  left : sheet ≡ written (answer_of input) (sheet_in input) blank
  unfolding answer_of sheet_in
  left = s ∙ (λ i. written (train_answer (v i) (o i) (e i)) (sheet_for (facts_of (vehicles (v i))) (order_of (o i))) blank)

  -- where it is done the order is good, so that it is read as it stands
  counted : is_ok (answer_of input) ≡ true → length (sheet_in input) ≡ sheet_length (order_read os).book
  unfolding answer_of sheet_in train_refusals
  counted done =
      let order = order_part input in
      let good = not-false (good_order order) (train_lent (vehicle_part input) (order_refusals order 33) done).0 in
      sheet_bytes_lem (facts_of (vehicles (vehicle_part input))) (order_of order)
      ∙ ap (λ (x : Order). sheet_length x.book) (sym (ap order_read o ∙ read_good order good))

  pub line_answer : {n : ℕ} {shown : List ℕ} → n ≡ sheet_length (order_read os).book → shown ≡ take n sheet → line_by (answer_number answer) (answer_place answer) shown ≡ line_of input
  unfolding line_by line_of
  line_answer l t =
      let shown = t ∙ (λ i. take (l i) (left i)) in
      let r = answer_of input in
      let last : last_field (answer_number r is 0) (take (sheet_length (order_read os).book) (written r (sheet_in input) blank)) ≡ last_field (answer_number r is 0) (sheet_in input) =
      rw (done_number r) (last_shown (is_ok r) (sheet_in input) blank (sheet_length (order_read os).book) counted) in
      (λ i. line_by (answer_number (answered i)) (answer_place (answered i)) (shown i)) ∙ ap (λ (t : List ℕ). answer_fields (answer_number r) (answer_place r) ++ t) last
