-- `sections::grant::put_speeds` meets its contract: the first `i` speeds are laid. Assumes nothing.
use mathlib.Core.Path.{◌≡◌}
use lib.ListN.{length}
use Rattle.books.specs.Books.{book_of}
use Rattle.sections.specs.Routes.{speeds_on}
use Rattle.sections.specs.Sections.{sections_of, book_named_in}
use Rattle.sections.proofs.Lays.{laid_to}
use Rattle.sections.proofs.grant.put_speeds.Given as goal

abbrev pub invariant-loop-i : goal.invariant-loop-i
invariant-loop-i l =
    (l.speeds ≡ laid_to (speeds_on (book_of (book_named_in l.orders)) l.number l.f (sections_of l.orders)) l.initial.speeds l.i) × (length l.speeds ≡ length l.initial.speeds)
