-- A route's offers, and what is granted of them: rules' granting over the sections. Assumes nothing.
use Prim.Native.Nat.{ℕ, ◌≤◌}
use native.Mathlib.Omega.{arith}
use mathlib.Core.Path.{◌≡◌, refl, sym, ap, ap₂, ◌∙◌}
use mathlib.Core.Bool.{Bool, true, false, cond}
use mathlib.Core.List.{List, [], ◌∷◌, map}
use mathlib.Core.Logic.{◌⊎◌, inl, inr, ⊎_elim}
use borrow.Author.Tests.{eq-eqb, eqb-true, eqb-false}
use Rattle.lists.specs.Words.{◌is◌, Every}
use Rattle.lists.proofs.Lists.{every_map}
use Rattle.facts.specs.declared.Facts.{Facts}
use Rattle.order.specs.declared.Order.{Order}
use Rattle.categories.specs.Categories.{first_present, speed_of}
use Rattle.categories.specs.declared.category.Category.{Category}
use Rattle.categories.proofs.Demands.{own_speed_most}
use Rattle.rules.specs.Books.{RuleBook, broken_by, Rise}
use Rattle.rules.specs.CrossBorder.{cross_border}
use Rattle.rules.specs.Grants.{offer, best_of, offer_of, granted_of, MayBeGranted, Among, Stands, Granted, KeepsNumber}
use Rattle.rules.specs.Withdrawn.{former_book, longer_than_all}
use Rattle.rules.specs.declared.grant.Offer.{Offer}
use Rattle.rules.proofs.Demands.{stands_exactly, rows_granted, among_stands, stands_among, broken_kept}
use Rattle.sections.specs.Routes.{asked_on, slowest_of, broken_on, route_offer, granted_on, Somewhere, MayBeGrantedOn, BreaksOn, OfferedOn}

-- ---- a rule broken on some section, or on none
nowhere : (P : Order → Type 0) (os : List Order) → Every P os → Somewhere (λ o. P o → ⊥) os → ⊥
nowhere P [] e w = w
nowhere P (o ∷ os) e (inl d) = d e.0
nowhere P (o ∷ os) e (inr w) = nowhere P os e.1 w

module _ (b : RuleBook) (c : Category) (f : Facts) where
  all_or_one : (os : List Order) → Every (λ o. broken_by b c f o ≡ 0) os ⊎ BreaksOn b f os c
  all_or_one [] = inl tt
  all_or_one (o ∷ os) = go (broken_by b c f o is 0) refl (all_or_one os)
    where
      go : (t : Bool) → (broken_by b c f o is 0) ≡ t → Every (λ o. broken_by b c f o ≡ 0) os ⊎ BreaksOn b f os c → Every (λ o. broken_by b c f o ≡ 0) (o ∷ os) ⊎ BreaksOn b f (o ∷ os) c
      go true e (inl each) = inl (eqb-true (broken_by b c f o) 0 e, each)
      go true e (inr some) = inr (inr some)
      go false e rest = inr (inl (eqb-false (broken_by b c f o) 0 e))

  first_none : (os : List Order) → Every (λ o. broken_by b c f o ≡ 0) os → broken_on b c f os ≡ 0
  unfolding broken_on
  first_none [] e = refl
  first_none (o ∷ os) e = ap (λ (t : Bool). cond t (broken_on b c f os) (broken_by b c f o)) (eq-eqb (broken_by b c f o) 0 e.0) ∙ first_none os e.1

  first_some : (os : List Order) → BreaksOn b f os c → broken_on b c f os ≡ 0 → ⊥
  unfolding broken_on
  first_some [] w e = w
  first_some (o ∷ os) w e = go (broken_by b c f o is 0) refl w e (first_some os)
    where
      go : (t : Bool) → (broken_by b c f o is 0) ≡ t → BreaksOn b f (o ∷ os) c → cond t (broken_on b c f os) (broken_by b c f o) ≡ 0 → (BreaksOn b f os c → broken_on b c f os ≡ 0 → ⊥) → ⊥
      go true t (inl d) e rest = d (eqb-true (broken_by b c f o) 0 t)
      go true t (inr w) e rest = rest w e
      go false t w e rest = eqb-false (broken_by b c f o) 0 t e

module _ (b : RuleBook) (f : Facts) (os : List Order) where
  pub unbroken_or_breaks : (c : Category) → Every (λ o. broken_by b c f o ≡ 0) os ⊎ BreaksOn b f os c
  unbroken_or_breaks c = all_or_one b c f os

  pub unbroken_each : (c : Category) → broken_on b c f os ≡ 0 → Every (λ o. broken_by b c f o ≡ 0) os
  unbroken_each c e = ⊎_elim (λ each. each) (λ some. absurd (first_some b c f os some e)) (unbroken_or_breaks c)

  pub each_unbroken : (c : Category) → Every (λ o. broken_by b c f o ≡ 0) os → broken_on b c f os ≡ 0
  each_unbroken c = first_none b c f os

  pub breaks_somewhere : (c : Category) → (broken_on b c f os ≡ 0 → ⊥) → BreaksOn b f os c
  breaks_somewhere c d = ⊎_elim (λ each. absurd (d (each_unbroken c each))) (λ some. some) (unbroken_or_breaks c)

  pub somewhere_breaks : (c : Category) → BreaksOn b f os c → broken_on b c f os ≡ 0 → ⊥
  somewhere_breaks c = first_some b c f os

  pub may_or_breaks : (c : Category) → asked_on os ≤ c.number → MayBeGrantedOn b f os c ⊎ BreaksOn b f os c
  may_or_breaks c h = ⊎_elim (λ each. inl (record { asked = h; unbroken = each })) inr (unbroken_or_breaks c)

  pub breaks_not_may : (c : Category) → BreaksOn b f os c → MayBeGrantedOn b f os c → ⊥
  breaks_not_may c some m = nowhere (λ (o : Order). broken_by b c f o ≡ 0) os m.unbroken some

  -- ---- the offers
  keeps : KeepsNumber (route_offer b f os)
  unfolding route_offer
  keeps c = refl

  pub may_offered : (c : Category) → Among c b.rows → MayBeGrantedOn b f os c → Stands (asked_on os) (map (route_offer b f os) b.rows) c.number (slowest_of c f os)
  unfolding route_offer
  may_offered c a m =
      among_stands (asked_on os) (route_offer b f os) keeps b.rows c a ((stands_exactly (asked_on os) (route_offer b f os c)).1 m.asked (each_unbroken c m.unbroken))

  pub offered_may : (n s : ℕ) → Stands (asked_on os) (map (route_offer b f os) b.rows) n s → OfferedOn b f os n s
  unfolding route_offer
  offered_may n s w =
      let y = stands_among (asked_on os) (route_offer b f os) keeps b.rows n s w in
      let t = (stands_exactly (asked_on os) (route_offer b f os y.category)).0 y.stands in
      record {
        category = y.category;
        among = y.among;
        may = record { asked = t.0; unbroken = unbroken_each y.category t.1 };
        number = y.number;
        speed = y.speed;
      }

  pub is_granted : Rise 0 b.rows → Granted (asked_on os) (map (route_offer b f os) b.rows) (granted_on b f os)
  unfolding granted_on
  is_granted r = rows_granted (asked_on os) (route_offer b f os) keeps b.rows r

-- ---- each section for itself
module _ (b : RuleBook) (f : Facts) (c : Category) where
  each_unbroken_too : (os : List Order) → Every (λ o. MayBeGranted b f o c) os → Every (λ o. broken_by b c f o ≡ 0) os
  each_unbroken_too = every_map (λ (o : Order). MayBeGranted b f o c) (λ (o : Order). broken_by b c f o ≡ 0) (λ o m. m.unbroken)

  pub each_may : (os : List Order) → Every (λ o. MayBeGranted b f o c) os → MayBeGrantedOn b f os c
  each_may [] each = record { asked = omega arith; unbroken = tt }
  each_may (o ∷ os) each = record { asked = each.0.asked; unbroken = each_unbroken_too (o ∷ os) each }

  from_asked : (asked : ℕ) (os : List Order) → Every (λ o. o.asked ≡ asked) os → asked ≤ c.number → Every (λ o. broken_by b c f o ≡ 0) os → Every (λ o. MayBeGranted b f o c) os
  from_asked asked [] alike h each = tt
  from_asked asked (o ∷ os) alike h each = (record { asked = omega (arith, alike.0); unbroken = each.0 }, from_asked asked os alike.1 h each.1)

  pub may_each : (os : List Order) → Every (λ o. o.asked ≡ asked_on os) os → MayBeGrantedOn b f os c → Every (λ o. MayBeGranted b f o c) os
  may_each os alike m = from_asked (asked_on os) os alike m.asked m.unbroken

-- ---- one section
module _ (b : RuleBook) (f : Facts) (o : Order) where
  one_speed : (c : Category) → slowest_of c f (o ∷ []) ≡ speed_of c f o
  unfolding slowest_of
  one_speed c = omega (arith, own_speed_most c f o)

  one_broken : (c : Category) → broken_on b c f (o ∷ []) ≡ broken_by b c f o
  unfolding broken_on
  one_broken c = go (broken_by b c f o is 0) refl
    where
      go : (t : Bool) → (broken_by b c f o is 0) ≡ t → cond t 0 (broken_by b c f o) ≡ broken_by b c f o
      go true e = sym (eqb-true (broken_by b c f o) 0 e)
      go false e = refl

  -- it is offered as for a sheet
  one_offer : (c : Category) → route_offer b f (o ∷ []) c ≡ offer_of b f o c
  unfolding route_offer offer_of
  one_offer c = λ i. record { number = c.number; speed = one_speed c i; broken = one_broken c i }

  one_offers : (rows : List Category) → map (route_offer b f (o ∷ [])) rows ≡ map (offer_of b f o) rows
  one_offers [] = refl
  one_offers (c ∷ rows) = ap₂ (λ (x : Offer) (xs : List Offer). x ∷ xs) (one_offer c) (one_offers rows)

  pub one_section : granted_on b f (o ∷ []) ≡ granted_of b f o
  unfolding granted_on granted_of
  one_section = ap (best_of o.asked) (one_offers b.rows)

-- by the former list a route is granted the same
pub granted_kept : (f : Facts) → longer_than_all f ≡ false → (os : List Order) → granted_on former_book f os ≡ granted_on cross_border f os
unfolding granted_on route_offer broken_on former_book
granted_kept f elsewhere os =
    λ i. best_of (asked_on os) (map (λ c. offer c.number (slowest_of c f os) (first_present (map (λ o. broken_kept f elsewhere c o i) os))) cross_border.rows)
