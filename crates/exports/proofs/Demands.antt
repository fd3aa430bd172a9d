-- What a program that links the static library may rely on: the theorems, over the definitions of specs/. Assumes nothing.
use Rattle.std.proofs.Common.{ℕ, ◌/◌, ◌%◌, ◌≤◌, ◌<◌, ◌≡◌, ◌⊎◌, refl, ap, true, false, not, ◌&&◌, ◌||◌, List, [], ◌++◌, length, drop, arith, Result, Ok, Err}
use Rattle.std.specs.Result.{result_unwrap_or}
use borrow.Author.Tests.{lt-ltb, le-ltb}
use Rattle.lists.specs.Words.{◌is◌, all}
use Rattle.record.specs.Records.{is_whole}
use Rattle.record.specs.Vehicles.{vehicles, is_working}
use Rattle.account.specs.Answers as account
use Rattle.account.specs.Answers.{Answer}
use Rattle.account.specs.Accounts.{account_of}
use Rattle.account.specs.Portions.{accounted, joined}
use Rattle.account.proofs.Demands.{any_grouping_done}
use Rattle.account.specs.Groupings.{Grouping, uncut, BetweenRecords, GoodPortion, NoneRefused}
use Rattle.account.specs.declared.Account.{Account}
use Rattle.facts.specs.Engines.{GoodEngines}
use Rattle.speed.specs.Speed.{holds_the_speed}
use Rattle.judge.specs.Answers.{answer_number, answer_place, place_of, train_answer, train_sheet, account_answer, account_sheet}
use Rattle.judge.specs.declared.Refusal.{Refusal}
use Rattle.route.specs.Answers.{train_route, train_speeds, account_route, account_speeds}
use Rattle.travel.specs.AccountRecords.{size, is_account, offered, record_of}
use Rattle.exports.specs.Lent.{IsPlaced, sheet_number, route_number, account_number, lent_number, lent_account, lent_vehicle, written_of, carried, AllAnswered}
use Rattle.exports.proofs.Lent.{answer_small, account_refused, train_route_placed, account_route_placed, lent_or_none}
use Rattle.exports.proofs.Carried.{join_refused_seven, join_other_number, sheet_refused_seven, route_refused_seven, portion_back, join_back, grouping_back, grouping_answered, grouping_account, grouping_sheet, grouping_route}

-- ---- the answer as one number: its two parts are had from it
pub number_back : {T : Type 0} (answer : Result T Refusal) → sheet_number answer % 256 ≡ answer_number answer
number_back answer = omega (arith, answer_small answer)

pub place_back : {T : Type 0} (answer : Result T Refusal) → sheet_number answer / 256 ≡ answer_place answer
place_back answer = omega (arith, answer_small answer)

-- of a route its three, the place being that of one of 200 records or 64 sections
pub route_number_back : (r : Result ℕ Refusal) → route_number r % 256 ≡ answer_number r
route_number_back r = omega (arith, answer_small r)

module _ (r : Result ℕ Refusal) (few : answer_place r ≤ 200) where
  pub route_place_back : route_number r / 256 % 16777216 ≡ answer_place r
  route_place_back = omega (arith, few, answer_small r)

  pub category_back : route_number r / 4294967296 ≡ result_unwrap_or r 0
  category_back = omega (arith, few, answer_small r)

place_few : {T : Type 0} (r : Result T Refusal) → IsPlaced place_of r → answer_place r ≤ 200
place_few (Ok x) h = omega arith
place_few (Err refusal) h = h

pub train_route_few : (bs orders : List ℕ) (room : ℕ) → answer_place (train_route bs orders room) ≤ 200
train_route_few bs orders room = place_few (train_route bs orders room) (train_route_placed bs orders room)

pub account_route_few : (bs hauled orders : List ℕ) (room : ℕ) → answer_place (account_route bs (offered hauled) orders room) ≤ 200
account_route_few bs hauled orders room = place_few (account_route bs (offered hauled) orders room) (account_route_placed bs (offered hauled) orders room)

-- ---- an account that is lent: its own refusals first, then 5, and a refused call writes nothing
pub own_refusals_first : (r : Answer) (room : List ℕ) → (account.answer_number r ≡ 0 → ⊥) → (lent_number r (length room) ≡ account_number r) × (lent_account r room ≡ room)
own_refusals_first (Ok given) room h = absurd (h refl)
own_refusals_first (Err refused) room h = (refl, refl)

pub then_five : (r : Answer) (room : List ℕ) → account.answer_number r ≡ 0 → length room < size → (lent_number r (length room) ≡ 5) × (lent_account r room ≡ room)
then_five (Ok given) room e h = let t = lt-ltb (length room) size h in (rw t refl, rw t refl)
then_five (Err refused) room e h = absurd (account_refused refused.refusal e)

pub done_writes : (r : Answer) (room : List ℕ) → account.answer_number r ≡ 0 → size ≤ length room → (lent_number r (length room) ≡ 0) × (lent_account r room ≡ written_of r ++ drop size room)
done_writes (Ok given) room e h = let t = le-ltb (length room) size h in (rw t refl, rw t refl)
done_writes (Err refused) room e h = absurd (account_refused refused.refusal e)

-- ---- bytes that are no account: 7 in its place, and nothing is written
pub join_seven : (left right room : List ℕ) → (is_account left && is_account right) ≡ false
    → (lent_number (joined (offered left) (offered right)) (length room) ≡ 7) × (lent_account (joined (offered left) (offered right)) room ≡ room)
join_seven = join_refused_seven

pub join_seven_only : (left right : List ℕ) (room : ℕ) → (is_account left && is_account right) ≡ true → lent_number (joined (offered left) (offered right)) room ≡ 7 → ⊥
join_seven_only = join_other_number

-- behind 1, which is for engines that are none or not whole records
pub sheet_seven : (engines hauled order : List ℕ) → (length engines is 0 || not (is_whole engines)) ≡ false → is_account hauled ≡ false → (sheet : List ℕ)
    → (sheet_number (account_answer engines (offered hauled) order (length sheet)) ≡ 7) × (account_sheet engines (offered hauled) order sheet ≡ sheet)
sheet_seven engines hauled order whole bad = sheet_refused_seven engines hauled whole bad order

-- so of a route, which then gives category 0
pub route_seven : (engines hauled orders : List ℕ) → (length engines is 0 || not (is_whole engines)) ≡ false → is_account hauled ≡ false → (speeds : List ℕ)
    → (route_number (account_route engines (offered hauled) orders (length speeds)) ≡ 7)
    × (result_unwrap_or (account_route engines (offered hauled) orders (length speeds)) 0 ≡ 0)
    × (account_speeds engines (offered hauled) orders speeds ≡ speeds)
route_seven engines hauled orders whole bad = route_refused_seven engines hauled whole bad orders

-- ---- what is written reads back
pub written_portion_back : (bs : List ℕ) (a : Account) → accounted bs ≡ Ok a → offered (record_of a) ≡ a
written_portion_back = portion_back

pub written_join_back : (left right : List ℕ) (a : Account) → joined (offered left) (offered right) ≡ Ok a → offered (record_of a) ≡ a
written_join_back = join_back

-- ---- demand 3 through the bytes: portions cut between records, no call refused
module _ (g : Grouping ℕ) (cut : BetweenRecords g) (none : NoneRefused g) where
  pub carried_account : accounted (uncut g) ≡ Ok (offered (carried g))
  carried_account = grouping_account g cut none

  pub sheet_from_bytes : (engines order sheet : List ℕ) → GoodEngines engines → all is_working (vehicles engines) ≡ true
      → (account_answer engines (offered (carried g)) order (length sheet) ≡ train_answer (engines ++ uncut g) order (length sheet))
      × (account_sheet engines (offered (carried g)) order sheet ≡ train_sheet (engines ++ uncut g) order sheet)
  sheet_from_bytes = grouping_sheet g cut none

  pub route_from_bytes : (engines orders speeds : List ℕ) → GoodEngines engines → all is_working (vehicles engines) ≡ true
      → (account_route engines (offered (carried g)) orders (length speeds) ≡ train_route (engines ++ uncut g) orders (length speeds))
      × (account_speeds engines (offered (carried g)) orders speeds ≡ train_speeds (engines ++ uncut g) orders speeds)
  route_from_bytes = grouping_route g cut none

-- the same from the records alone: each good, none a working engine, at most 200, cut anywhere; then every call answers 0
module _ (g : Grouping ℕ) (cut : BetweenRecords g) (good : GoodPortion (uncut g)) where
  pub carried_from_portions : (room : ℕ) → size ≤ room → AllAnswered g room × (offered (carried g) ≡ account_of (vehicles (uncut g)))
  carried_from_portions room fits =
      let d = any_grouping_done g cut good in
      let h = grouping_back g d.0 in
      (grouping_answered g d.0 room fits, cc)

  pub sheet_from_carried : (engines order sheet : List ℕ) → GoodEngines engines → all is_working (vehicles engines) ≡ true
      → (sheet_number (account_answer engines (offered (carried g)) order (length sheet)) ≡ sheet_number (train_answer (engines ++ uncut g) order (length sheet)))
      × (account_sheet engines (offered (carried g)) order sheet ≡ train_sheet (engines ++ uncut g) order sheet)
  sheet_from_carried engines order sheet e w =
      let t = grouping_sheet g cut (any_grouping_done g cut good).0 engines order sheet e w in
      (ap sheet_number t.0, t.1)

  pub route_from_carried : (engines orders speeds : List ℕ) → GoodEngines engines → all is_working (vehicles engines) ≡ true
      → (route_number (account_route engines (offered (carried g)) orders (length speeds)) ≡ route_number (train_route (engines ++ uncut g) orders (length speeds)))
      × (account_speeds engines (offered (carried g)) orders speeds ≡ train_speeds (engines ++ uncut g) orders speeds)
  route_from_carried engines orders speeds e w =
      let t = grouping_route g cut (any_grouping_done g cut good).0 engines orders speeds e w in
      (ap route_number t.0, t.1)

-- ---- the vehicle that holds the speed
pub twenty_four_or_none : (front back : List ℕ) (room : ℕ) → (length (lent_vehicle front back room) ≡ 24) ⊎ (lent_vehicle front back room ≡ [])
twenty_four_or_none = lent_or_none

-- 24 bytes are room enough for it, and 23 are not
pub room_of_24 : (front back : List ℕ) → (lent_vehicle front back 24 ≡ holds_the_speed front back) × (lent_vehicle front back 23 ≡ [])
unfolding lent_vehicle
room_of_24 front back = (refl, refl)
