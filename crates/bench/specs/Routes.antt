-- Request One on the bench: the line that ROUTE writes of its input.
use Rattle.std.specs.Prelude.{ℕ, ◌+◌, ◌*◌, List, ◌++◌, get_or, take, drop, Result}
use Rattle.std.specs.Result.{result_unwrap_or}
use Rattle.lists.specs.Words.{◌is◌}
use Rattle.record.specs.Vehicles.{vehicles}
use Rattle.facts.specs.Facts.{facts_of}
use Rattle.judge.specs.Answers.{answer_number, answer_place}
use Rattle.judge.specs.declared.Refusal.{Refusal}
use Rattle.route.specs.Answers.{train_route, speeds_for}
use Rattle.bench.specs.Texts.{field, last_field}
use Rattle.bench.specs.Lines.{answer_fields}

-- how many sections: the first byte, and 0 where there is none
abbrev pub section_count : List ℕ → ℕ
section_count input = get_or input 0 0

-- an order record for each, as far as they are there
abbrev pub route_orders : List ℕ → List ℕ
route_orders input = take (24 * section_count input) (drop 1 input)

-- then vehicles, up to 4,824 bytes, the rest ignored; none where an order is missing
abbrev pub route_vehicles : List ℕ → List ℕ
route_vehicles input = take 4824 (drop (1 + 24 * section_count input) input)

-- the route with room for the speeds of 64 sections
unfoldable pub route_of : List ℕ → Result ℕ Refusal
route_of input = train_route (route_vehicles input) (route_orders input) 64

unfoldable pub speeds_in : List ℕ → List ℕ
speeds_in input = speeds_for (facts_of (vehicles (route_vehicles input))) (route_orders input)

-- fields parted by one space and closed by a line feed: number, place, category, the speeds of the sections
unfoldable pub route_line_by : ℕ → ℕ → ℕ → List ℕ → List ℕ
route_line_by number place category speeds = answer_fields number place ++ (field category ++ last_field (number is 0) speeds)

unfoldable pub route_line_of : List ℕ → List ℕ
route_line_of input = route_line_by (answer_number (route_of input)) (answer_place (route_of input)) (result_unwrap_or (route_of input) 0) (speeds_in input)
