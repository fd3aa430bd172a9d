-- Request One: what is offered on a route, gathered section by section from the last to the first.
use Rattle.std.specs.Prelude.{ℕ, min, cond}
use mathlib.Core.List.{List, map, zip_with}
use Rattle.lists.specs.Words.{◌is◌}
use Rattle.facts.specs.declared.Facts.{Facts}
use Rattle.order.specs.declared.Order.{Order}
use Rattle.categories.specs.declared.category.Category.{Category}
use Rattle.rules.specs.Books.{RuleBook}
use Rattle.rules.specs.Grants.{offer, absent, six_of}
use Rattle.rules.specs.declared.grant.Offer.{Offer}
use Rattle.sections.specs.Routes.{route_offer}

-- each category as it is offered for a route; six places, as decided
unfoldable pub offers_on : RuleBook → Facts → List Order → List Offer
offers_on b f os = six_of (map (route_offer b f os) b.rows)

-- a category before any section, where there is one of the number
abbrev pub unbroken : Category → Offer
unbroken c = cond (c.number is 0) absent (offer c.number c.speed 0)

-- a rule that is broken here, or the one that is broken further on
abbrev pub first_rule : ℕ → ℕ → ℕ
first_rule here further = cond (here is 0) further here

-- a category on a section in front of those further on: the first rule broken, and the lesser speed
abbrev pub offer_in_front : Offer → Offer → Offer
offer_in_front here further = offer here.number (min here.speed further.speed) (first_rule here.broken further.broken)

unfoldable pub in_front : List Offer → List Offer → List Offer
in_front here further = zip_with offer_in_front here further
