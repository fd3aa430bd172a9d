-- `sections::grant::offers_on` meets its contract: the sections left, before what is offered behind them, make all. Assumes nothing.
use mathlib.Core.Path.{◌≡◌}
use Rattle.books.specs.Books.{book_of}
use Rattle.sections.specs.Gathering.{offers_on}
use Rattle.sections.specs.Sections.{sections_of}
use Rattle.sections.proofs.Gathers.{with_rest}
use Rattle.sections.proofs.grant.offers_on.Given as goal

abbrev pub invariant-loop-section : goal.invariant-loop-section
invariant-loop-section l = with_rest l.book l.f l.offers l.section-iterator.iter.rest.now ≡ offers_on (book_of l.book) l.f (sections_of l.orders)
