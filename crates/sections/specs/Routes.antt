-- Request One, "A sheet for the whole route": demand 2 over every section, of any rule book.
use Rattle.std.specs.Prelude.{ℕ, ◌≤◌, ◌≡◌, Option, List, [], ◌∷◌, map, ◌⊎◌}
use Rattle.lists.specs.Words.{Every}
use Rattle.lists.specs.Figures.{least}
use Rattle.facts.specs.declared.Facts.{Facts}
use Rattle.order.specs.Orders.{no_order}
use Rattle.order.specs.declared.Book.{Book}
use Rattle.order.specs.declared.Order.{Order}
use Rattle.categories.specs.Categories.{first_present, speed_of, category_of}
use Rattle.categories.specs.declared.category.Category.{Category}
use Rattle.rules.specs.Books.{RuleBook, broken_by}
use Rattle.rules.specs.Grants.{offer, best_of, Among}
use Rattle.rules.specs.declared.grant.Offer.{Offer}
use Rattle.rules.specs.declared.grant.Best.{Best}

-- the first section; where there is none, the order of zeros, which asks for 0 by the cross-border book
abbrev pub first_on : List Order → Order
first_on [] = no_order
first_on (o ∷ os) = o

-- "all with the same asked category": the first section's
abbrev pub asked_on : List Order → ℕ
asked_on os = (first_on os).asked

-- the book that a route is judged by: the first section's (request Six)
abbrev pub book_on : List Order → Book
book_on os = (first_on os).book

-- a category's speed on a route: the slowest section's, none being faster than its own
unfoldable pub slowest_of : Category → Facts → List Order → ℕ
slowest_of c f os = least c.speed (λ o. speed_of c f o) os

-- the rule that it breaks first on the first section where it breaks one, or 0
unfoldable pub broken_on : RuleBook → Category → Facts → List Order → ℕ
broken_on b c f os = first_present (map (λ o. broken_by b c f o) os)

-- a category as it is offered for a route
unfoldable pub route_offer : RuleBook → Facts → List Order → Category → Offer
route_offer b f os c = offer c.number (slowest_of c f os) (broken_on b c f os)

-- "the greatest of the slowest-section speeds, lowest number at a tie": granted as for a sheet
unfoldable pub granted_on : RuleBook → Facts → List Order → Option Best
granted_on b f os = best_of (asked_on os) (map (route_offer b f os) b.rows)

-- "for each section one byte, its speed in that category": the category of the number n; 0 has no category, and no speed
unfoldable pub section_speed : RuleBook → ℕ → Facts → Order → ℕ
section_speed b n f o = speed_of (category_of n b.rows) f o

abbrev pub speeds_on : RuleBook → ℕ → Facts → List Order → List ℕ
speeds_on b n f os = map (section_speed b n f) os

-- on some section
abbrev pub Somewhere : (Order → Type 0) → List Order → Type 0
Somewhere P [] = ⊥
Somewhere P (o ∷ os) = P o ⊎ Somewhere P os

-- a category that may be granted: the asked or a greater one, that breaks no rule on any section
pub record MayBeGrantedOn (b : RuleBook) (f : Facts) (os : List Order) (c : Category) : Type 0 where
  pub asked : asked_on os ≤ c.number
  pub unbroken : Every (λ o. broken_by b c f o ≡ 0) os

-- a category that breaks a rule on some section
abbrev pub BreaksOn : RuleBook → Facts → List Order → Category → Type 0
BreaksOn b f os c = Somewhere (λ o. broken_by b c f o ≡ 0 → ⊥) os

-- a category of this number and speed may be granted
pub record OfferedOn (b : RuleBook) (f : Facts) (os : List Order) (n s : ℕ) : Type 0 where
  pub category : Category
  pub among : Among category b.rows
  pub may : MayBeGrantedOn b f os category
  pub number : n ≡ category.number
  pub speed : s ≡ slowest_of category f os
