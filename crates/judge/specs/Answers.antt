-- Document 01, "Answers that yield no sheet": the number and the place of each answer, and the refusals in their two orders.
use Rattle.std.specs.Prelude.{ℕ, ◌+◌, Bool, not, ◌||◌, cond, List, [], ◌∷◌, ◌++◌, length, drop, Result, Ok, Err, is_ok, ⊤}
use Rattle.lists.specs.Words.{◌is◌, ◌above◌, all, leading, Case}
use Rattle.lists.specs.Refusals.{answered}
use Rattle.record.specs.Records.{record_count, records_of, is_whole}
use Rattle.record.specs.Vehicles.{good, vehicles, is_working}
use Rattle.record.specs.declared.vehicle.Vehicle.{Vehicle}
use Rattle.lists.specs.Figures.{some, first_is}
use Rattle.account.specs.Ceilings.{within}
use Rattle.account.specs.declared.Account.{Account}
use Rattle.order.specs.Orders.{good_order, order_of}
use Rattle.order.specs.declared.Order.{Order}
use Rattle.facts.specs.Facts.{working_of, hauled_of, facts_of, facts_beside}
use Rattle.facts.specs.declared.Facts.{Facts}
use Rattle.books.specs.Books.{book_of}
use Rattle.sheets.specs.Sheets.{sheet_length, sheet_of}
use Rattle.judge.specs.declared.Refusal.{Refusal}
use Rattle.judge.specs.declared.Refusal.TheVariants.{NotWhole, TooMany, BadField, BadOrder, ShortSheet, AboveCeiling, NotWorking, WorkingBehind, ManyEngines, NothingHauled}

abbrev pub number_of : Refusal → ℕ
number_of NotWhole = 1
number_of TooMany = 2
number_of (BadField place) = 3
number_of (BadOrder place) = 4
number_of ShortSheet = 5
number_of AboveCeiling = 7
number_of NotWorking = 11
number_of WorkingBehind = 12
number_of ManyEngines = 13
number_of NothingHauled = 14

-- 0 save for number 3 and, on a route, number 4
abbrev pub place_of : Refusal → ℕ
place_of NotWhole = 0
place_of TooMany = 0
place_of (BadField place) = place
place_of (BadOrder place) = place
place_of ShortSheet = 0
place_of AboveCeiling = 0
place_of NotWorking = 0
place_of WorkingBehind = 0
place_of ManyEngines = 0
place_of NothingHauled = 0

-- of an answer: 0 and 0 where it is Ok
abbrev pub answer_number : {T : Type 0} → Result T Refusal → ℕ
answer_number (Ok x) = 0
answer_number (Err r) = number_of r

abbrev pub answer_place : {T : Type 0} → Result T Refusal → ℕ
answer_place (Ok x) = 0
answer_place (Err r) = place_of r

abbrev pub refusal : Refusal → Bool → Case Refusal
refusal given applies = record { gives = given; applies = applies }

-- of a list of records: 1, 2, 3
abbrev pub not_whole : List ℕ → Case Refusal
not_whole bs = refusal NotWhole (length bs is 0 || not (is_whole bs))

abbrev pub bad_field : List ℕ → Case Refusal
bad_field bs = refusal (BadField (leading good (records_of bs))) (not (all good (records_of bs)))

-- of the order and the lent sheet: 4, with place 0, and 5 for fewer bytes than the sheet will have
abbrev pub order_tests : Bool → ℕ → ℕ → List (Case Refusal)
order_tests is_good bytes room = refusal (BadOrder 0) (not is_good) ∷ refusal ShortSheet (bytes above room) ∷ []

abbrev pub order_refusals : List ℕ → ℕ → List (Case Refusal)
order_refusals order room = order_tests (good_order order) (sheet_length (order_of order).book) room

-- of a whole train: 1, 2
abbrev pub count_refusals : List ℕ → List (Case Refusal)
count_refusals bs = not_whole bs ∷ refusal TooMany (record_count bs above 200) ∷ []

-- 1, 2, 3 before what is lent beside it, and 11, 12, 13, 14 behind
abbrev pub record_refusals : List ℕ → List (Case Refusal)
record_refusals bs = count_refusals bs ++ bad_field bs ∷ []

-- of so many working engines, and records hauled
abbrev pub size : ℕ → ℕ → List (Case Refusal)
size engines hauled =
    -- 13: more than two working engines
    refusal ManyEngines (engines above 2)
    -- 14: nothing is hauled
    ∷ refusal NothingHauled (hauled is 0)
    ∷ []

abbrev pub train_shape : List Vehicle → List (Case Refusal)
train_shape train =
    -- 11: the first record is not a working engine
    refusal NotWorking (not (first_is is_working train))
    -- 12: a working engine stands behind another kind
    ∷ refusal WorkingBehind (some is_working (hauled_of train))
    ∷ size (length (working_of train)) (length (hauled_of train))

abbrev pub train_around : List ℕ → List (Case Refusal) → List (Case Refusal)
train_around bs lent = record_refusals bs ++ (lent ++ train_shape (vehicles bs))

-- of engines with an account: 1, 7, 2, 3 before it, and 11, 13, 14 behind
abbrev pub engine_refusals : List ℕ → Account → List (Case Refusal)
engine_refusals bs hauled =
    not_whole bs
    -- 7: an account with a figure above its ceiling
    ∷ refusal AboveCeiling (not (within hauled))
    -- 2: more than 200 records together
    ∷ refusal TooMany (record_count bs + hauled.count above 200)
    ∷ bad_field bs
    ∷ []

abbrev pub engine_shape : List Vehicle → Account → List (Case Refusal)
engine_shape engines hauled =
    -- 11: with engines lent apart, any of them is not a working engine
    refusal NotWorking (not (all is_working engines))
    ∷ size (length engines) hauled.count

abbrev pub account_around : List ℕ → Account → List (Case Refusal) → List (Case Refusal)
account_around bs hauled lent = engine_refusals bs hauled ++ (lent ++ engine_shape (vehicles bs) hauled)

-- for a sheet: 1, 2, 3, 4, 5, 11, 12, 13, 14, and 1, 7, 2, 3, 4, 5, 11, 13, 14
unfoldable pub train_refusals : List ℕ → List ℕ → ℕ → List (Case Refusal)
train_refusals bs order room = train_around bs (order_refusals order room)

unfoldable pub account_refusals : List ℕ → Account → List ℕ → ℕ → List (Case Refusal)
account_refusals bs hauled order room = account_around bs hauled (order_refusals order room)

-- a refused call writes nothing at all; a done call writes its bytes over the first of those lent and no other
abbrev pub written : {T : Type 0} → Result T Refusal → List ℕ → List ℕ → List ℕ
written answer bytes lent = cond (is_ok answer) (bytes ++ drop (length bytes) lent) lent

-- the sheet of a train's facts, by the book that the order names
unfoldable pub sheet_for : Facts → Order → List ℕ
sheet_for f o = sheet_of (book_of o.book) f o

abbrev pub train_answer : List ℕ → List ℕ → ℕ → Result ⊤ Refusal
train_answer bs order room = answered (train_refusals bs order room)

abbrev pub train_sheet : List ℕ → List ℕ → List ℕ → List ℕ
train_sheet bs order sheet = written (train_answer bs order (length sheet)) (sheet_for (facts_of (vehicles bs)) (order_of order)) sheet

abbrev pub account_answer : List ℕ → Account → List ℕ → ℕ → Result ⊤ Refusal
account_answer bs hauled order room = answered (account_refusals bs hauled order room)

abbrev pub account_sheet : List ℕ → Account → List ℕ → List ℕ → List ℕ
account_sheet bs hauled order sheet =
    written (account_answer bs hauled order (length sheet)) (sheet_for (facts_beside (vehicles bs) hauled) (order_of order)) sheet
