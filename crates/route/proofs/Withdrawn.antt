-- What a route gives by today's rules and by the former list. Assumes nothing.
use Prim.Native.Nat.{ℕ}
use mathlib.Core.Path.{◌≡◌, sym, ap, ◌∙◌}
use mathlib.Core.Bool.{false}
use mathlib.Core.List.{List}
use Rattle.std.specs.Prelude.{Result, ⊤}
use Rattle.facts.specs.declared.Facts.{Facts}
use Rattle.order.specs.declared.Book.{Book}
use Rattle.order.specs.declared.Book.TheVariants.{CrossBorder}
use Rattle.books.specs.Books.{book_of}
use Rattle.rules.specs.CrossBorder.{cross_border}
use Rattle.rules.specs.Withdrawn.{former_book, longer_than_all}
use Rattle.rules.specs.Grants.{granted_number}
use Rattle.sections.specs.Routes.{book_on, granted_on, section_speed, speeds_on}
use Rattle.sections.specs.Sections.{sections_of}
use Rattle.sections.proofs.Demands as sections
use Rattle.judge.specs.Answers.{written}
use Rattle.judge.specs.declared.Refusal.{Refusal}
use Rattle.route.specs.Answers.{granted_for, speeds_for, route_by}
use Rattle.route.specs.Withdrawn.{formerly_granted, former_speeds}

module _ (f : Facts) (elsewhere : longer_than_all f ≡ false) (orders : List ℕ) (cross : book_on (sections_of orders) ≡ CrossBorder) where
  granted_kept : formerly_granted f orders ≡ granted_for f orders
  unfolding granted_for book_of
  granted_kept =
      ap granted_number (sections.granted_kept f elsewhere (sections_of orders))
      ∙ ap (λ (b : Book). granted_number (granted_on (book_of b) f (sections_of orders))) (sym cross)

  speeds_kept : former_speeds f orders ≡ speeds_for f orders
  unfolding speeds_for section_speed former_book book_of
  speeds_kept =
      ap (λ (n : ℕ). speeds_on cross_border n f (sections_of orders)) granted_kept
      ∙ ap (λ (b : Book). speeds_on (book_of b) (granted_for f orders) f (sections_of orders)) (sym cross)

  pub kept : (answer : Result ⊤ Refusal) (speeds : List ℕ) → (route_by answer (formerly_granted f orders) ≡ route_by answer (granted_for f orders)) × (written answer (former_speeds f orders) speeds ≡ written answer (speeds_for f orders) speeds)
  kept answer speeds = (ap (route_by answer) granted_kept, ap (λ (bytes : List ℕ). written answer bytes speeds) speeds_kept)
