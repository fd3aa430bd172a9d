-- Lines and parts of inputs in a single table, with one proof about the definitions; the room that is lent. Assumes nothing.
use Prim.Native.Nat.{ℕ}
use mathlib.Core.Path.{◌≡◌, refl}
use mathlib.Core.List.{List}
use Rattle.judge.specs.Answers.{train_answer}
use Rattle.route.specs.Answers.{train_route}
use Rattle.bench.specs.Texts.{glyph_of, decimal, last_field}
use Rattle.bench.specs.Lines.{order_part, vehicle_part, answer_of, answer_fields, line_by}
use Rattle.bench.specs.Routes.{route_orders, route_vehicles, route_of, route_line_by}
use Rattle.bench.specs.Cases.{lines, expected_lines, parts_read, expected_parts}

pub cases : (lines ≡ expected_lines) × (parts_read ≡ expected_parts)
unfolding line_by route_line_by answer_fields last_field decimal glyph_of
cases = (refl, refl)

-- SHEET has room for the 33 bytes of either book, ROUTE for the speeds of 64 sections
pub rooms : (input : List ℕ) → (answer_of input ≡ train_answer (vehicle_part input) (order_part input) 33) × (route_of input ≡ train_route (route_vehicles input) (route_orders input) 64)
unfolding answer_of route_of
rooms input = (refl, refl)
