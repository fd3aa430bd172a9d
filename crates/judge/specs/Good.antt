-- What is done: the plain conditions under which a call is answered 0 (document 01, "Answers that yield no sheet").
use Rattle.std.specs.Prelude.{ℕ, ◌+◌, ◌≤◌, ◌<◌, ◌≡◌, true, false, List, length}
use Rattle.lists.specs.Words.{all}
use Rattle.lists.specs.Figures.{some, first_is}
use Rattle.record.specs.Records.{record_count, records_of, is_whole}
use Rattle.record.specs.Vehicles.{good, vehicles, is_working}
use Rattle.account.specs.Ceilings.{within}
use Rattle.account.specs.declared.Account.{Account}
use Rattle.order.specs.Orders.{good_order, order_of}
use Rattle.facts.specs.Engines.{GoodEngines}
use Rattle.facts.specs.Facts.{working_of, hauled_of}
use Rattle.sheets.specs.Sheets.{sheet_length}

-- a good order, and room for the sheet of the book that it names
pub record GoodLent (order : List ℕ) (room : ℕ) : Type 0 where
  pub good : good_order order ≡ true
  pub fits : sheet_length (order_of order).book ≤ room

-- at most 200 whole good records: a working engine first, one or two of them, none behind another kind, and something hauled
pub record GoodTrain (bs : List ℕ) : Type 0 where
  pub whole : is_whole bs ≡ true
  pub few : record_count bs ≤ 200
  pub each : all good (records_of bs) ≡ true
  pub first : first_is is_working (vehicles bs) ≡ true
  pub behind : some is_working (hauled_of (vehicles bs)) ≡ false
  pub engines : length (working_of (vehicles bs)) ≤ 2
  pub hauled : 0 < length (hauled_of (vehicles bs))

-- one or two whole good records, each a working engine, and an account within its ceilings that holds something: at most 200 together
pub record GoodWithAccount (bs : List ℕ) (account : Account) : Type 0 where
  pub engines : GoodEngines bs
  pub working : all is_working (vehicles bs) ≡ true
  pub ceilings : within account ≡ true
  pub few : record_count bs + account.count ≤ 200
  pub hauled : 0 < account.count
