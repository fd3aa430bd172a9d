-- Document 01, "Tried on the bench": the line that SHEET writes of its input.
use Rattle.std.specs.Prelude.{ℕ, List, ◌++◌, take, drop, Result, ⊤}
use Rattle.lists.specs.Words.{◌is◌}
use Rattle.record.specs.Vehicles.{vehicles}
use Rattle.order.specs.Orders.{order_of}
use Rattle.order.specs.declared.Book.TheVariants.{Domestic}
use Rattle.facts.specs.Facts.{facts_of}
use Rattle.sheets.specs.Sheets.{sheet_length}
use Rattle.judge.specs.Answers.{answer_number, answer_place, train_answer, sheet_for}
use Rattle.judge.specs.declared.Refusal.{Refusal}
use Rattle.bench.specs.Texts.{field, last_field}

-- an order record, then vehicles, up to 4,848 bytes, the rest ignored
abbrev pub order_part : List ℕ → List ℕ
order_part input = take 24 input

abbrev pub vehicle_part : List ℕ → List ℕ
vehicle_part input = drop 24 (take 4848 input)

-- the answer for a sheet with room for the bytes of either book; up to 24 bytes hold no vehicle: refusal 1
unfoldable pub answer_of : List ℕ → Result ⊤ Refusal
answer_of input = train_answer (vehicle_part input) (order_part input) (sheet_length Domestic)

unfoldable pub sheet_in : List ℕ → List ℕ
sheet_in input = sheet_for (facts_of (vehicles (vehicle_part input))) (order_of (order_part input))

-- fields parted by one space: number, place
unfoldable pub answer_fields : ℕ → ℕ → List ℕ
answer_fields number place = field number ++ field place

-- and the sheet, closed by a line feed
unfoldable pub line_by : ℕ → ℕ → List ℕ → List ℕ
line_by number place sheet = answer_fields number place ++ last_field (number is 0) sheet

unfoldable pub line_of : List ℕ → List ℕ
line_of input = line_by (answer_number (answer_of input)) (answer_place (answer_of input)) (sheet_in input)
