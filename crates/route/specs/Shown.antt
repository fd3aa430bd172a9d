-- Demand 2 over every section: what a route that is done gives, by the facts of the train and the sections.
use Rattle.std.specs.Prelude.{ℕ, ◌≤◌, ◌<◌, ◌≡◌, List, length, drop, get_or}
use Rattle.lists.specs.Words.{Every}
use Rattle.facts.specs.declared.Facts.{Facts}
use Rattle.order.specs.Orders.{no_order}
use Rattle.order.specs.declared.Order.{Order}
use Rattle.categories.specs.Categories.{speed_of, category_of}
use Rattle.categories.specs.declared.category.Category.{Category}
use Rattle.rules.specs.Grants.{Among, granted_of, granted_number, granted_speed}
use Rattle.sections.specs.Routes.{asked_on, book_on, slowest_of, MayBeGrantedOn, BreaksOn, OfferedOn}
use Rattle.route.specs.Answers.{book_for}

pub record Shows (f : Facts) (os : List Order) (granted : ℕ) (before speeds : List ℕ) : Type 0 where
  -- all sections ask for the same category
  pub asked : Every (λ o. o.asked ≡ asked_on os) os
  -- and name the same book, by which they are judged
  pub books : Every (λ o. o.book ≡ book_on os) os
  -- none is granted exactly when every category from the asked on breaks a rule on some section
  pub none : granted ≡ 0 → (c : Category) → Among c (book_for os).rows → asked_on os ≤ c.number → BreaksOn (book_for os) f os c
  pub broken : ((c : Category) → Among c (book_for os).rows → asked_on os ≤ c.number → BreaksOn (book_for os) f os c) → granted ≡ 0
  -- the one granted is one of the table, the asked or a greater one, that breaks no rule on any section
  pub stands : 0 < granted → OfferedOn (book_for os) f os granted (slowest_of (category_of granted (book_for os).rows) f os)
  -- no slowest section of one that may be granted is faster, and none as fast has a lower number
  pub fastest : (c : Category) → Among c (book_for os).rows → MayBeGrantedOn (book_for os) f os c
      → slowest_of c f os ≤ slowest_of (category_of granted (book_for os).rows) f os
  pub lowest : (c : Category) → Among c (book_for os).rows → MayBeGrantedOn (book_for os) f os c
      → slowest_of c f os ≡ slowest_of (category_of granted (book_for os).rows) f os → granted ≤ c.number
  -- one byte a section: its speed in the category granted, 0 where none is, and its sheet's speed where the section alone grants the same
  pub bytes : (i : ℕ) → i < length os → get_or speeds i 0 ≡ speed_of (category_of granted (book_for os).rows) f (get_or os i no_order)
  pub zeros : granted ≡ 0 → (i : ℕ) → i < length os → get_or speeds i 0 ≡ 0
  pub alone : (i : ℕ) → i < length os → granted_number (granted_of (book_for os) f (get_or os i no_order)) ≡ granted → get_or speeds i 0 ≡ granted_speed (granted_of (book_for os) f (get_or os i no_order))
  -- and no byte beyond the last section's, as many as were lent
  pub long : length speeds ≡ length before
  pub beyond : drop (length os) speeds ≡ drop (length os) before
