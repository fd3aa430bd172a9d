-- Document 01, "Tried on the bench", and request One: lines of SHEET and ROUTE to the last byte, and which bytes of an input they read.
use Rattle.std.specs.Prelude.{ℕ, List, [], ◌∷◌, ◌++◌, length, get_or, replicate}
use Rattle.sheets.specs.Cases.{sheet_a}
use Rattle.bench.specs.Lines.{order_part, vehicle_part, line_by}
use Rattle.bench.specs.Routes.{route_orders, route_vehicles, route_line_by}

abbrev pub lines : List (List ℕ)
lines =
    -- every digit
    line_by 0 0 (0x01 ∷ 0x23 ∷ 0x45 ∷ 0x67 ∷ 0x89 ∷ 0xab ∷ 0xcd ∷ 0xef ∷ [])
    -- refused: `3 199 -`, `14 0 -`
    ∷ line_by 3 199 sheet_a
    ∷ line_by 14 0 sheet_a
    -- a route granted category 2, and one refused: `0 0 2 645a5a`, `4 63 0 -`
    ∷ route_line_by 0 0 2 (100 ∷ 90 ∷ 90 ∷ [])
    ∷ route_line_by 4 63 0 (100 ∷ 90 ∷ 90 ∷ [])
    -- case A
    ∷ line_by 0 0 sheet_a
    ∷ []

-- in ASCII
abbrev pub expected_lines : List (List ℕ)
expected_lines =
    -- `0 0 0123456789abcdef`
    (0x30 ∷ 0x20 ∷ 0x30 ∷ 0x20 ∷ 0x30 ∷ 0x31 ∷ 0x32 ∷ 0x33 ∷ 0x34 ∷ 0x35 ∷ 0x36 ∷ 0x37 ∷ 0x38 ∷ 0x39 ∷ 0x61 ∷ 0x62
    ∷ 0x63 ∷ 0x64 ∷ 0x65 ∷ 0x66 ∷ 0x0a ∷ [])
    -- `3 199 -`
    ∷ (0x33 ∷ 0x20 ∷ 0x31 ∷ 0x39 ∷ 0x39 ∷ 0x20 ∷ 0x2d ∷ 0x0a ∷ [])
    -- `14 0 -`
    ∷ (0x31 ∷ 0x34 ∷ 0x20 ∷ 0x30 ∷ 0x20 ∷ 0x2d ∷ 0x0a ∷ [])
    -- `0 0 2 645a5a`
    ∷ (0x30 ∷ 0x20 ∷ 0x30 ∷ 0x20 ∷ 0x32 ∷ 0x20 ∷ 0x36 ∷ 0x34 ∷ 0x35 ∷ 0x61 ∷ 0x35 ∷ 0x61 ∷ 0x0a ∷ [])
    -- `4 63 0 -`
    ∷ (0x34 ∷ 0x20 ∷ 0x36 ∷ 0x33 ∷ 0x20 ∷ 0x30 ∷ 0x20 ∷ 0x2d ∷ 0x0a ∷ [])
    -- `0 0 010164000000002020004400004d000070170000f41a000070170000a4060000`
    ∷ (0x30 ∷ 0x20 ∷ 0x30 ∷ 0x20 ∷ 0x30 ∷ 0x31 ∷ 0x30 ∷ 0x31 ∷ 0x36 ∷ 0x34 ∷ 0x30 ∷ 0x30 ∷ 0x30 ∷ 0x30 ∷ 0x30 ∷ 0x30
    ∷ 0x30 ∷ 0x30 ∷ 0x32 ∷ 0x30 ∷ 0x32 ∷ 0x30 ∷ 0x30 ∷ 0x30 ∷ 0x34 ∷ 0x34 ∷ 0x30 ∷ 0x30 ∷ 0x30 ∷ 0x30 ∷ 0x34 ∷ 0x64
    ∷ 0x30 ∷ 0x30 ∷ 0x30 ∷ 0x30 ∷ 0x37 ∷ 0x30 ∷ 0x31 ∷ 0x37 ∷ 0x30 ∷ 0x30 ∷ 0x30 ∷ 0x30 ∷ 0x66 ∷ 0x34 ∷ 0x31 ∷ 0x61
    ∷ 0x30 ∷ 0x30 ∷ 0x30 ∷ 0x30 ∷ 0x37 ∷ 0x30 ∷ 0x31 ∷ 0x37 ∷ 0x30 ∷ 0x30 ∷ 0x30 ∷ 0x30 ∷ 0x61 ∷ 0x34 ∷ 0x30 ∷ 0x36
    ∷ 0x30 ∷ 0x30 ∷ 0x30 ∷ 0x30 ∷ 0x0a ∷ [])
    ∷ []

-- an order of ones, vehicles of twos, one byte more than is read
abbrev sheet_input : List ℕ
sheet_input = replicate 24 1 ++ replicate 4825 2

-- two sections of ones
abbrev route_input : List ℕ
route_input = 2 ∷ replicate 48 1 ++ replicate 4825 3

-- how many bytes, and the first
abbrev told : List ℕ → List ℕ
told bytes = length bytes ∷ get_or bytes 0 0 ∷ []

abbrev pub parts_read : List (List ℕ)
parts_read = told (order_part sheet_input) ∷ told (vehicle_part sheet_input) ∷ told (route_orders route_input) ∷ told (route_vehicles route_input) ∷ []

abbrev pub expected_parts : List (List ℕ)
expected_parts = (24 ∷ 1 ∷ []) ∷ (4824 ∷ 2 ∷ []) ∷ (48 ∷ 1 ∷ []) ∷ (4824 ∷ 3 ∷ []) ∷ []
