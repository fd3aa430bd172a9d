-- What is done of a route: the plain conditions on its orders and on the bytes lent (request One).
use Rattle.std.specs.Prelude.{ℕ, ◌≤◌, ◌<◌, ◌≡◌, true, List}
use Rattle.lists.specs.Words.{all}
use Rattle.record.specs.Records.{record_count, records_of, is_whole}
use Rattle.sections.specs.Sections.{asked_in, book_named_in, good_section}

-- 1 to 64 whole good orders that ask for one category by one book, and a byte for each
pub record GoodOrders (orders : List ℕ) (room : ℕ) : Type 0 where
  pub whole : is_whole orders ≡ true
  pub some : 0 < record_count orders
  pub few : record_count orders ≤ 64
  pub each : all (good_section (asked_in orders) (book_named_in orders)) (records_of orders) ≡ true
  pub fits : record_count orders ≤ room
