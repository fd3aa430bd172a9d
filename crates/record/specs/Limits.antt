-- Document 01's vehicle record at the ends of its ranges and beside them, and records as bytes with what they say: the definitions held to the page.
use Rattle.std.specs.Prelude.{ℕ, zero, suc, ◌+◌, ◌/◌, ◌%◌, Bool, true, false, Option, Some, None, List, [], ◌∷◌, ◌++◌, map, take, drop, replicate}
use Rattle.record.specs.Ranges.{in_ranges}
use Rattle.record.specs.Vehicles.{fields, vehicle, first_bad, is_wagon, is_hauled_engine, is_working, is_isolated, is_m, is_v, is_r, is_joined, has_matrossow, has_d_load}
use Rattle.record.specs.declared.vehicle.Vehicle.{Vehicle}
use Rattle.record.specs.declared.vehicle.Kind.TheVariants.{Wagon, HauledEngine, WorkingEngine}
use Rattle.record.specs.declared.vehicle.Setting.TheVariants.{M, V, R}

-- a number in so many bytes, the least first
abbrev pub in_bytes : ℕ → ℕ → List ℕ
in_bytes zero x = []
in_bytes (suc w) x = x % 256 ∷ in_bytes w (x / 256)

-- a record with another number in so many bytes from s on
abbrev pub with_number : List ℕ → ℕ → ℕ → ℕ → List ℕ
with_number r s w x = take s r ++ in_bytes w x ++ drop (s + w) r

-- number 18, and all else at the low end
abbrev lowest : List ℕ
lowest = 18 ∷ 0 ∷ 0 ∷ 0 ∷ 0 ∷ 0 ∷ 0 ∷ 0 ∷ 1 ∷ 0 ∷ 0 ∷ 0 ∷ 0 ∷ 0 ∷ 1 ∷ 0 ∷ 1 ∷ 0 ∷ 0 ∷ 0 ∷ 1 ∷ 0 ∷ 0 ∷ 0 ∷ []

-- whether it stays in its ranges with each of these numbers in so many bytes from s on
abbrev ranged : ℕ → ℕ → List ℕ → List Bool
ranged s w xs = map (λ x. in_ranges fields (with_number lowest s w x)) xs

abbrev pub at_limits : List Bool
at_limits =
    -- 0-7 vehicle number, 8-9 mass, 10-13 braked masses, 14-15 length
    ranged 0 8 (0 ∷ 1 ∷ 999999999999 ∷ 1000000000000 ∷ [])
    ++ ranged 8 2 (0 ∷ 1 ∷ 2500 ∷ 2501 ∷ [])
    ++ ranged 10 2 (0 ∷ 2500 ∷ 2501 ∷ [])
    ++ ranged 12 2 (0 ∷ 2500 ∷ 2501 ∷ [])
    ++ ranged 14 2 (0 ∷ 1 ∷ 1000 ∷ 1001 ∷ [])

abbrev pub expected : List Bool
expected =
    false ∷ true ∷ true ∷ false
    ∷ false ∷ true ∷ true ∷ false
    ∷ true ∷ true ∷ false
    ∷ true ∷ true ∷ false
    ∷ false ∷ true ∷ true ∷ false
    ∷ []

abbrev pub at_byte_limits : List Bool
at_byte_limits =
    -- 16 axles, 17 kind, 18 setting, 19 joined, 20 permitted speed
    ranged 16 1 (0 ∷ 1 ∷ 24 ∷ 25 ∷ [])
    ++ ranged 17 1 (0 ∷ 2 ∷ 3 ∷ [])
    ++ ranged 18 1 (0 ∷ 3 ∷ 4 ∷ [])
    ++ ranged 19 1 (0 ∷ 1 ∷ 2 ∷ [])
    ++ ranged 20 1 (0 ∷ 1 ∷ 200 ∷ 201 ∷ [])
    -- 21 Matrossow brake, 22 D load, 23 always 0
    ++ ranged 21 1 (0 ∷ 1 ∷ 2 ∷ [])
    ++ ranged 22 1 (0 ∷ 1 ∷ 2 ∷ [])
    ++ ranged 23 1 (0 ∷ 1 ∷ [])

abbrev pub expected_bytes : List Bool
expected_bytes =
    false ∷ true ∷ true ∷ false
    ∷ true ∷ true ∷ false
    ∷ true ∷ true ∷ false
    ∷ true ∷ true ∷ false
    ∷ false ∷ true ∷ true ∷ false
    ∷ true ∷ true ∷ false
    ∷ true ∷ true ∷ false
    ∷ true ∷ false
    ∷ []

-- the least and the greatest number that close, and their neighbours; then 23, 24 and 25 bytes
abbrev pub offered : List (List ℕ)
offered =
    map (λ x. with_number lowest 0 8 x) (17 ∷ 18 ∷ 19 ∷ 999999999990 ∷ 999999999991 ∷ 999999999992 ∷ [])
    ++ (take 23 lowest ∷ lowest ∷ (lowest ++ 0 ∷ []) ∷ [])

abbrev pub taken : List Bool
taken = false ∷ true ∷ false ∷ false ∷ true ∷ false ∷ false ∷ true ∷ false ∷ []

-- ---- as written, so read
-- a working engine set to M and joined
abbrev pub engine : List ℕ
engine = 237 ∷ 248 ∷ 62 ∷ 201 ∷ 50 ∷ 0 ∷ 0 ∷ 0 ∷ 133 ∷ 3 ∷ 234 ∷ 3 ∷ 35 ∷ 3 ∷ 4 ∷ 1 ∷ 6 ∷ 2 ∷ 1 ∷ 1 ∷ 140 ∷ 0 ∷ 0 ∷ 0 ∷ []

-- a wagon set to V with byte 21
abbrev pub wagon : List ℕ
wagon = 73 ∷ 116 ∷ 188 ∷ 52 ∷ 74 ∷ 0 ∷ 0 ∷ 0 ∷ 88 ∷ 2 ∷ 174 ∷ 1 ∷ 244 ∷ 1 ∷ 150 ∷ 0 ∷ 4 ∷ 0 ∷ 2 ∷ 0 ∷ 120 ∷ 1 ∷ 0 ∷ 0 ∷ []

-- a hauled engine set to R with a D load
abbrev pub hauled_engine : List ℕ
hauled_engine = 77 ∷ 189 ∷ 204 ∷ 189 ∷ 213 ∷ 0 ∷ 0 ∷ 0 ∷ 196 ∷ 9 ∷ 0 ∷ 0 ∷ 1 ∷ 0 ∷ 232 ∷ 3 ∷ 24 ∷ 1 ∷ 3 ∷ 0 ∷ 200 ∷ 0 ∷ 1 ∷ 0 ∷ []

abbrev pub written : List (List ℕ)
written = engine ∷ wagon ∷ hauled_engine ∷ []

abbrev pub says : List (Option Vehicle)
says =
    Some (record { number = 218124712173; mass = 901; vmass = 1002; mmass = 803; length = 260; axles = 6; kind = WorkingEngine; setting = M; joined = true; speed = 140; matrossow = false; dload = false })
    ∷ Some (record { number = 318712345673; mass = 600; vmass = 430; mmass = 500; length = 150; axles = 4; kind = Wagon; setting = V; joined = false; speed = 120; matrossow = true; dload = false })
    ∷ Some (record { number = 918012345677; mass = 2500; vmass = 0; mmass = 1; length = 1000; axles = 24; kind = HauledEngine; setting = R; joined = false; speed = 200; matrossow = false; dload = true })
    ∷ []

-- ---- a file
-- two records and seven bytes more: from the head, in order, and no third
abbrev pub file : List ℕ
file = with_number lowest 8 2 600 ++ with_number lowest 8 2 700 ++ replicate 7 1

abbrev pub filed : List (List ℕ)
filed = with_number lowest 8 2 600 ∷ with_number lowest 8 2 700 ∷ []

-- 3: the first record out of range, counted from 0; a mass of 0 is
abbrev pub scans : List (Option ℕ)
scans =
    first_bad []
    ∷ first_bad (lowest ∷ lowest ∷ [])
    ∷ first_bad (lowest ∷ with_number lowest 8 2 0 ∷ with_number lowest 8 2 0 ∷ lowest ∷ [])
    ∷ first_bad (with_number lowest 8 2 0 ∷ lowest ∷ [])
    ∷ []

abbrev pub found : List (Option ℕ)
found = None ∷ None ∷ Some 1 ∷ Some 0 ∷ []

-- ---- what a byte means
-- these tests of a vehicle with a number in one byte
abbrev tested : List (Vehicle → Bool) → ℕ → ℕ → List Bool
tested tests s x = map (λ test. test (vehicle (with_number lowest s 1 x))) tests

abbrev kinds : List (Vehicle → Bool)
kinds = is_wagon ∷ is_hauled_engine ∷ is_working ∷ []

abbrev settings : List (Vehicle → Bool)
settings = is_isolated ∷ is_m ∷ is_v ∷ is_r ∷ []

abbrev marks : List (Vehicle → Bool)
marks = is_joined ∷ has_matrossow ∷ has_d_load ∷ []

abbrev pub meant : List (List Bool)
meant =
    tested kinds 17 0
    ∷ tested kinds 17 1
    ∷ tested kinds 17 2
    ∷ tested settings 18 0
    ∷ tested settings 18 1
    ∷ tested settings 18 2
    ∷ tested settings 18 3
    ∷ tested marks 19 1
    ∷ tested marks 21 1
    ∷ tested marks 22 1
    ∷ []

-- wagon, hauled engine, working engine; isolated, M, V, R; joined, Matrossow brake, D load
abbrev pub meanings : List (List Bool)
meanings =
    (true ∷ false ∷ false ∷ [])
    ∷ (false ∷ true ∷ false ∷ [])
    ∷ (false ∷ false ∷ true ∷ [])
    ∷ (true ∷ false ∷ false ∷ false ∷ [])
    ∷ (false ∷ true ∷ false ∷ false ∷ [])
    ∷ (false ∷ false ∷ true ∷ false ∷ [])
    ∷ (false ∷ false ∷ false ∷ true ∷ [])
    ∷ (true ∷ false ∷ false ∷ [])
    ∷ (false ∷ true ∷ false ∷ [])
    ∷ (false ∷ false ∷ true ∷ [])
    ∷ []
