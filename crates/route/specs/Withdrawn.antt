-- What a route gave by the former list of rules, with 46: for the theorem that it gives the same, and nothing else.
use Rattle.std.specs.Prelude.{ℕ, List}
use Rattle.facts.specs.declared.Facts.{Facts}
use Rattle.rules.specs.Grants.{granted_number}
use Rattle.rules.specs.Withdrawn.{former_book}
use Rattle.sections.specs.Routes.{granted_on, speeds_on}
use Rattle.sections.specs.Sections.{sections_of}

abbrev pub formerly_granted : Facts → List ℕ → ℕ
formerly_granted f orders = granted_number (granted_on former_book f (sections_of orders))

abbrev pub former_speeds : Facts → List ℕ → List ℕ
former_speeds f orders = speeds_on former_book (formerly_granted f orders) f (sections_of orders)
