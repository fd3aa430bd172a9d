-- What a C function answers and leaves in the buffer that it is lent.
use Rattle.std.specs.Prelude.{ℕ, ◌+◌, ◌*◌, ◌≤◌, ◌≡◌, cond, List, [], ◌++◌, length, drop, Result, Ok, Err, IfErr}
use Rattle.std.specs.Result.{result_unwrap_or}
use Rattle.lists.specs.Words.{◌above◌}
use Rattle.account.specs.Answers as account
use Rattle.account.specs.Answers.{Answer}
use Rattle.account.specs.Portions.{accounted, joined}
use Rattle.account.specs.Groupings.{Grouping, portion, pair}
use Rattle.speed.specs.Speed.{holds_the_speed}
use Rattle.judge.specs.Answers as judge
use Rattle.judge.specs.declared.Refusal.{Refusal}
use Rattle.travel.specs.AccountRecords.{size, offered, record_of}

-- a refusal's place is that of one of 200 records, or of 64 sections
abbrev pub IsPlaced : {T E : Type 0} → (E → ℕ) → Result T E → Type 0
IsPlaced place answer = IfErr answer (λ refusal. place refusal ≤ 200)

-- an answer as one number
abbrev pub one_number : ℕ → ℕ → ℕ
one_number number place = number + 256 * place

abbrev pub sheet_number : {T : Type 0} → Result T Refusal → ℕ
sheet_number answer = one_number (judge.answer_number answer) (judge.answer_place answer)

-- of a route, with the category granted above number and place
abbrev pub route_number : Result ℕ Refusal → ℕ
route_number r = sheet_number r + 4294967296 * result_unwrap_or r 0

abbrev pub account_number : Answer → ℕ
account_number answer = one_number (account.answer_number answer) (account.answer_place answer)

-- of an account for a room of so many bytes: its refusals as document 01 orders them, then 5 for a room shorter than an account's bytes
abbrev pub lent_number : Answer → ℕ → ℕ
lent_number (Ok given) room = cond (size above room) 5 0
lent_number (Err refused) room = account_number (Err refused)

-- a refused call writes nothing; a done call writes as many bytes as an account has, and no other
abbrev pub lent_account : Answer → List ℕ → List ℕ
lent_account (Ok given) room = cond (size above length room) room (record_of given ++ drop size room)
lent_account (Err refused) room = room

-- what is written, call after call, where portions are accounted and their accounts joined as they are grouped; a call that is refused returned the empty account
abbrev pub written_of : Answer → List ℕ
written_of answer = record_of (account.account_given answer)

abbrev pub carried : Grouping ℕ → List ℕ
carried (portion bs) = written_of (accounted bs)
carried (pair left right) = written_of (joined (offered (carried left)) (offered (carried right)))

-- every one of these calls answers 0, with so many bytes of room for each account
abbrev pub AllAnswered : Grouping ℕ → ℕ → Type 0
AllAnswered (portion bs) room = lent_number (accounted bs) room ≡ 0
AllAnswered (pair left right) room = AllAnswered left room × AllAnswered right room × (lent_number (joined (offered (carried left)) (offered (carried right))) room ≡ 0)

-- the vehicle that holds the speed, where there is one and room for its 24 bytes
unfoldable pub lent_vehicle : List ℕ → List ℕ → ℕ → List ℕ
lent_vehicle front back room = cond (24 above room) [] (holds_the_speed front back)

-- and the room that it is copied into
abbrev pub lent_room : List ℕ → List ℕ → List ℕ → List ℕ
lent_room front back room = lent_vehicle front back (length room) ++ drop (length (lent_vehicle front back (length room))) room
