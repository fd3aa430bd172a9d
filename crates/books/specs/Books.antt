-- The two rule books: byte 7 of an order names the one that it is judged by (request Six).
use Rattle.order.specs.declared.Book.{Book}
use Rattle.order.specs.declared.Book.TheVariants.{CrossBorder, Domestic}
use Rattle.rules.specs.Books.{RuleBook}
use Rattle.rules.specs.CrossBorder.{cross_border}
use Rattle.domestic.specs.Rules.{domestic}

unfoldable pub book_of : Book → RuleBook
book_of CrossBorder = cross_border
book_of Domestic = domestic
