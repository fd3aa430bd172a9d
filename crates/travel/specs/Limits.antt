-- The 128 bytes of an account held to their table: an account of different figures as bytes, each mark in its byte, and bytes that are an account or none.
use Rattle.std.specs.Prelude.{ℕ, Bool, true, false, List, [], ◌∷◌, ◌++◌, map, take, drop, replicate}
use Rattle.lists.specs.Words.{◌is◌}
use Rattle.record.specs.Limits.{with_number}
use Rattle.account.specs.Limits.{saying}
use Rattle.account.specs.declared.Account.{Account}
use Rattle.travel.specs.AccountRecords.{is_account, record_of}

-- different figures, with the mark at this byte alone
abbrev marked : ℕ → Account
marked byte =
    saying (101 ∷ 400001 ∷ 300002 ∷ 200003 ∷ 150004
    ∷ 4005 ∷ 3006 ∷ 107 ∷ 108 ∷ 109 ∷ 110
    ∷ 111 ∷ 112 ∷ 113 ∷ 114
    ∷ 2 ∷ 0 ∷ 3 ∷ 1 ∷ 4
    ∷ 120015 ∷ 250016 ∷ 350017
    ∷ []) (map (λ place. byte is place) (56 ∷ 57 ∷ 58 ∷ 59 ∷ 81 ∷ []))

-- rule 16 is broken in it
abbrev pub travelling : Account
travelling = marked 57

abbrev pub written : List ℕ
written =
    -- 0 count, 4 mass, 8 V masses set to V, 12 M masses set to M, 16 length
    101 ∷ 0 ∷ 0 ∷ 0
    ∷ 129 ∷ 26 ∷ 6 ∷ 0
    ∷ 226 ∷ 147 ∷ 4 ∷ 0
    ∷ 67 ∷ 13 ∷ 3 ∷ 0
    ∷ 244 ∷ 73 ∷ 2 ∷ 0
    -- 20 axles, 24 axles set to V
    ∷ 165 ∷ 15 ∷ 0 ∷ 0
    ∷ 190 ∷ 11 ∷ 0 ∷ 0
    -- 28 hauled engines, 32 records set to M, 36 isolated, 40 D loads
    ∷ 107 ∷ 0 ∷ 0 ∷ 0
    ∷ 108 ∷ 0 ∷ 0 ∷ 0
    ∷ 109 ∷ 0 ∷ 0 ∷ 0
    ∷ 110 ∷ 0 ∷ 0 ∷ 0
    -- 44 leading, 48 trailing, 52 longest run of isolated
    ∷ 111 ∷ 0 ∷ 0 ∷ 0
    ∷ 112 ∷ 0 ∷ 0 ∷ 0
    ∷ 113 ∷ 0 ∷ 0 ∷ 0
    -- 56 to 59 marks, 60 slowest speed, 64 the settings of the first five
    ∷ 0 ∷ 1 ∷ 0 ∷ 0
    ∷ 114 ∷ 0 ∷ 0 ∷ 0
    ∷ 2 ∷ 0 ∷ 3 ∷ 1 ∷ 4
    -- 69 length set to V, 73 M masses of hauled engines, 77 V masses of wagons, 81 mark
    ∷ 207 ∷ 212 ∷ 1 ∷ 0
    ∷ 160 ∷ 208 ∷ 3 ∷ 0
    ∷ 65 ∷ 87 ∷ 5 ∷ 0
    ∷ 0
    -- 82 to 127 are not used
    ∷ replicate 46 0

-- the five marks' bytes
abbrev marks_of : List ℕ → List ℕ
marks_of bs = take 4 (drop 56 bs) ++ take 1 (drop 81 bs)

abbrev pub marks : List (List ℕ)
marks = map (λ byte. marks_of (record_of (marked byte))) (56 ∷ 57 ∷ 58 ∷ 59 ∷ 81 ∷ [])

-- an engine behind a wagon, rules 16, 17, 18, a hauled engine not set to M
abbrev pub marks_written : List (List ℕ)
marks_written =
    (1 ∷ 0 ∷ 0 ∷ 0 ∷ 0 ∷ [])
    ∷ (0 ∷ 1 ∷ 0 ∷ 0 ∷ 0 ∷ [])
    ∷ (0 ∷ 0 ∷ 1 ∷ 0 ∷ 0 ∷ [])
    ∷ (0 ∷ 0 ∷ 0 ∷ 1 ∷ 0 ∷ [])
    ∷ (0 ∷ 0 ∷ 0 ∷ 0 ∷ 1 ∷ [])
    ∷ []

-- ---- an account, or none
-- with a number in a byte of these 128
abbrev put : ℕ → ℕ → Bool
put byte x = is_account (with_number written byte 1 x)

abbrev pub at_limits : List Bool
at_limits =
    -- 127, 128, 129 bytes
    is_account (take 127 written)
    ∷ is_account written
    ∷ is_account (written ++ 0 ∷ [])
    -- a mark of 1, and of 2
    ∷ put 56 1
    ∷ put 56 2
    ∷ put 57 2
    ∷ put 58 1
    ∷ put 58 2
    ∷ put 59 1
    ∷ put 59 2
    ∷ put 81 1
    ∷ put 81 2
    -- an unused byte
    ∷ put 82 1
    ∷ put 100 1
    ∷ put 127 1
    -- a count, a setting at its ceiling and one above
    ∷ put 0 200
    ∷ put 0 201
    ∷ put 64 4
    ∷ put 64 5
    ∷ []

abbrev pub expected : List Bool
expected =
    false ∷ true ∷ false
    ∷ true ∷ false ∷ false ∷ true ∷ false ∷ true ∷ false ∷ true ∷ false
    ∷ false ∷ false ∷ false
    ∷ true ∷ false ∷ true ∷ false
    ∷ []
