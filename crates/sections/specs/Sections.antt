-- Requests One and Six: the orders of a route, one record a section.
use Rattle.std.specs.Prelude.{ℕ, Bool, true, false, ◌&&◌, List, ◌++◌, map, length, take, drop}
use Rattle.lists.specs.Words.{◌is◌, leading}
use Rattle.record.specs.Records.{records_of}
use Rattle.order.specs.Orders.{good_order, order_of}
use Rattle.order.specs.declared.Book.{Book}
use Rattle.order.specs.declared.Book.TheVariants.{CrossBorder, Domestic}
use Rattle.order.specs.declared.Order.{Order}
use Rattle.sections.specs.Routes.{asked_on, book_on}

-- the sections in order
abbrev pub sections_of : List ℕ → List Order
sections_of orders = map order_of (records_of orders)

-- the category that the first section asks for
abbrev pub asked_in : List ℕ → ℕ
asked_in orders = asked_on (sections_of orders)

-- the book that the first section names
abbrev pub book_named_in : List ℕ → Book
book_named_in orders = book_on (sections_of orders)

abbrev pub same_book : Book → Book → Bool
same_book CrossBorder CrossBorder = true
same_book CrossBorder Domestic = false
same_book Domestic CrossBorder = false
same_book Domestic Domestic = true

-- every field in its range, the asked category and the book as given
unfoldable pub good_section : ℕ → Book → List ℕ → Bool
good_section asked book r = good_order r && (order_of r).asked is asked && same_book (order_of r).book book

-- how many sections are good from the first on, up to one that is not: its place, counted from 0
abbrev pub leading_good : List ℕ → ℕ
leading_good orders = leading (good_section (asked_in orders) (book_named_in orders)) (records_of orders)

-- bytes written over the first of those lent, as far as there are any
unfoldable pub laid_over : List ℕ → List ℕ → List ℕ
laid_over bytes lent = take (length lent) bytes ++ drop (length bytes) lent
