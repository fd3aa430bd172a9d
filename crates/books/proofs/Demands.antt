-- The two rule books: what the theorems over a book ask, and what each book gives. Assumes nothing.
use mathlib.Core.Path.{◌≡◌, refl}
use Rattle.facts.specs.declared.Facts.{Facts}
use Rattle.order.specs.declared.Book.{Book}
use Rattle.order.specs.declared.Book.TheVariants.{CrossBorder, Domestic}
use Rattle.order.specs.declared.Order.{Order}
use Rattle.categories.specs.Categories.{rows_of}
use Rattle.rules.specs.Books.{Sound}
use Rattle.rules.specs.CrossBorder.{cross_border}
use Rattle.rules.specs.Grants.{best_of, granted_of, decision_of}
use Rattle.rules.proofs.Demands as cross
use Rattle.domestic.proofs.Demands as domestic
use Rattle.books.specs.Books.{book_of}

-- the theorems over a sound book hold of both
pub book_sound : (b : Book) → Sound (book_of b)
unfolding book_of
book_sound CrossBorder = cross.cross_border_sound
book_sound Domestic = domestic.domestic_sound

-- each has the categories of its table
pub book_rows : (b : Book) → (book_of b).rows ≡ rows_of b
unfolding book_of
book_rows CrossBorder = cross.cross_border_rows
book_rows Domestic = domestic.domestic_rows_lem

-- the book of a cross-border order is the cross-border one
pub cross_border_kept : book_of CrossBorder ≡ cross_border
unfolding book_of
cross_border_kept = refl

-- what is granted is the best of what is decided to be offered
pub granted_of_decided : (b : Book) (f : Facts) (o : Order) → best_of o.asked (decision_of (book_of b) f o).offers ≡ granted_of (book_of b) f o
unfolding book_of
granted_of_decided CrossBorder = cross.granted_of_decided
granted_of_decided Domestic = domestic.granted_of_decided
