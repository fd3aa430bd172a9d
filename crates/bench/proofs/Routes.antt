-- Laws of ROUTE's line: how long it is, and that what is judged makes it. Assumes nothing.
use Prim.Native.Nat.{ℕ, ◌+◌, ◌*◌, ◌/◌, ◌≤◌}
use mathlib.Core.Path.{◌≡◌, refl, sym, ap, ◌∙◌}
use mathlib.Core.Bool.{Bool, true, false, cond}
use mathlib.Core.List.{List, [], ◌∷◌, ◌++◌}
use native.Mathlib.Omega.{arith}
use borrow.Author.Tests.{ltb-false}
use lib.ListN.{length, take, length-append, drop_of_length-le}
use Rattle.lists.specs.Words.{◌is◌}
use Rattle.record.specs.Records.{record_count}
use Rattle.record.specs.Vehicles.{vehicles}
use Rattle.facts.specs.Facts.{facts_of}
use Rattle.judge.specs.Answers.{answer_number, answer_place, written}
use Rattle.judge.specs.declared.Refusal.{Refusal}
use Rattle.judge.specs.declared.Refusal.TheVariants.{NotWhole}
use Rattle.judge.proofs.Demands.{train_lent, done_number}
use Rattle.std.specs.Prelude.{drop, Result, Ok, Err, is_ok, ⊤}
use Rattle.std.specs.Result.{result_and, result_unwrap_or}
use Rattle.route.specs.Answers.{section_refusals, train_refusals, train_answer, train_route, train_speeds, speeds_for}
use Rattle.route.proofs.Demands.{one_byte_a_section}
use Rattle.bench.specs.Texts.{glyph_of, decimal, field, last_field}
use Rattle.bench.specs.Lines.{answer_fields}
use Rattle.bench.specs.Routes.{section_count, route_orders, route_vehicles, route_of, speeds_in, route_line_by, route_line_of}
use Rattle.bench.proofs.Texts.{field_length, last_length, last_shown}
use Rattle.bench.proofs.Lines.{answer_length}

-- ---- how long
module _ (number place category : ℕ) (speeds : List ℕ) where
  -- with at most 64 speeds, where they are shown
  pub route_line_length : (number is 0 ≡ true → length speeds ≤ 64) → length (route_line_by number place category speeds) ≤ 192
  unfolding route_line_by last_field
  route_line_length few =
      let behind = field category ++ last_field (number is 0) speeds in
      omega (arith, length-append (answer_fields number place) behind, length-append (field category) (last_field (number is 0) speeds), answer_length number place, field_length category, shown_length (number is 0) few)
    where
      shown_length : (done : Bool) → (done ≡ true → length speeds ≤ 64) → length (last_field done speeds) ≤ 129
      shown_length true h = omega (arith, h refl, last_length true speeds)
      shown_length false h = omega arith

-- no line is longer: a route that is done has no more sections than there is room for
module _ (vs os : List ℕ) (room : ℕ) where
  roomy : is_ok (train_answer vs os room) ≡ true → record_count os ≤ room
  unfolding train_refusals
  roomy done = ltb-false room (record_count os) (train_lent vs (section_refusals os room) done).1.1.0

finished : (input : List ℕ) → is_ok (route_of input) ≡ is_ok (train_answer (route_vehicles input) (route_orders input) 64)
unfolding route_of
finished input = go (train_answer (route_vehicles input) (route_orders input) 64) _
  where
    go : (answer : Result ⊤ Refusal) (granted : ℕ) → is_ok (result_and answer (Ok granted)) ≡ is_ok answer
    go (Ok x) granted = refl
    go (Err refusal) granted = refl

pub route_line_bound : (input : List ℕ) → length (route_line_of input) ≤ 192
unfolding route_line_of speeds_in
route_line_bound input =
    let f = facts_of (vehicles (route_vehicles input)) in
    route_line_length (answer_number (route_of input)) (answer_place (route_of input)) (result_unwrap_or (route_of input) 0) (speeds_in input) (λ done. omega (arith, roomy (route_vehicles input) (route_orders input) 64 (sym (done_number (route_of input) ∙ finished input) ∙ done), one_byte_a_section f (route_orders input)))

-- ---- what is answered of the route, and written into 64 blank bytes, makes the line of the input
module _ (input vs os blank : List ℕ) {given : Result ℕ Refusal} {speeds : List ℕ} (e : length blank ≡ 64) (v : vs ≡ route_vehicles input) (o : os ≡ route_orders input)
    (g : given ≡ train_route vs os (length blank)) (s : speeds ≡ train_speeds vs os blank) where
  routed : given ≡ route_of input
  unfolding route_of
  routed = g ∙ (λ i. train_route (v i) (o i) (e i))

  left : speeds ≡ written (route_of input) (speeds_in input) blank
  unfolding speeds_in
  left =
      s
      ∙ (λ i. written (train_answer (v i) (o i) (e i)) (speeds_for (facts_of (vehicles (v i))) (o i)) blank)
      ∙ ap (λ (b : Bool). cond b (speeds_in input ++ drop (length (speeds_in input)) blank) blank) (sym (finished input))

  -- one byte a section
  counted : length (speeds_in input) ≡ length os / 24
  unfolding speeds_in
  counted = one_byte_a_section (facts_of (vehicles (route_vehicles input))) (route_orders input) ∙ ap record_count (sym o)

  pub route_line_answer : {shown : List ℕ} → shown ≡ take (length os / 24) speeds
      → route_line_by (answer_number given) (answer_place given) (result_unwrap_or given 0) shown ≡ route_line_of input
  unfolding route_line_by route_line_of
  route_line_answer t =
      let shown = t ∙ ap (take (length os / 24)) left in
      let r = route_of input in
      let last : last_field (answer_number r is 0) (take (length os / 24) (written r (speeds_in input) blank)) ≡ last_field (answer_number r is 0) (speeds_in input) =
      rw (done_number r) (last_shown (is_ok r) (speeds_in input) blank (length os / 24) (λ _. counted)) in
      (λ i. route_line_by (answer_number (routed i)) (answer_place (routed i)) (result_unwrap_or (routed i) 0) (shown i))
      ∙ ap (λ (t : List ℕ). answer_fields (answer_number r) (answer_place r) ++ (field (result_unwrap_or r 0) ++ t)) last

-- ---- an order that is missing, or no byte behind the last, is refusal 1: "1 0 0 -"
short_vehicles : (input : List ℕ) → length input ≤ 1 + 24 * section_count input → route_vehicles input ≡ []
short_vehicles input h = ap (take 4824) (drop_of_length-le input h)

pub route_short_refused : (input : List ℕ) → length input ≤ 1 + 24 * section_count input → route_of input ≡ Err NotWhole
unfolding route_of train_refusals
route_short_refused input h = rw (short_vehicles input h) refl

pub route_short_line : (input : List ℕ) → length input ≤ 1 + 24 * section_count input → route_line_of input ≡ 49 ∷ 32 ∷ 48 ∷ 32 ∷ 48 ∷ 32 ∷ 45 ∷ 10 ∷ []
unfolding route_line_of route_line_by route_of answer_fields last_field decimal glyph_of train_refusals
route_short_line input h = rw (short_vehicles input h) refl
