-- include/prskavon.h: number + 256 * place + 4294967296 * category, and the room that is needed, case by case.
use Rattle.std.specs.Prelude.{ℕ, List, [], ◌∷◌, Ok, Err, ⊤}
use Rattle.account.specs.Accounts.{empty}
use Rattle.account.specs.Answers.{refused_by}
use Rattle.account.specs.declared.Refusal.TheVariants as account
use Rattle.judge.specs.declared.Refusal.TheVariants.{NotWhole, BadField, BadOrder, NothingHauled}
use Rattle.exports.specs.Lent.{sheet_number, route_number, lent_number}

abbrev pub answered : List ℕ
answered =
    -- of a sheet: done, 1, 3 of the last of 200 records, 14
    sheet_number {T = ⊤} (Ok tt)
    ∷ sheet_number {T = ⊤} (Err NotWhole)
    ∷ sheet_number {T = ⊤} (Err (BadField 199))
    ∷ sheet_number {T = ⊤} (Err NothingHauled)
    -- of a route: category 6 granted, 4 of the last of 64 sections
    ∷ route_number (Ok 6)
    ∷ route_number (Err (BadOrder 63))
    -- of an account: done, 1, 2, 3 of the last of 200 records, 6, 7
    ∷ lent_number (Ok empty) 128
    ∷ lent_number (Err (refused_by account.NotWhole)) 128
    ∷ lent_number (Err (refused_by account.TooMany)) 128
    ∷ lent_number (Err (refused_by (account.BadField 199))) 128
    ∷ lent_number (Err (refused_by account.WorkingEngine)) 128
    ∷ lent_number (Err (refused_by account.AboveCeiling)) 128
    -- 5 where 127 bytes are lent for it, behind its own refusals
    ∷ lent_number (Ok empty) 127
    ∷ lent_number (Err (refused_by account.AboveCeiling)) 127
    ∷ []

abbrev pub expected : List ℕ
expected =
    0 ∷ 1 ∷ 50947 ∷ 14
    ∷ 25769803776 ∷ 16132
    ∷ 0 ∷ 1 ∷ 2 ∷ 50947 ∷ 6 ∷ 7
    ∷ 5 ∷ 7
    ∷ []
