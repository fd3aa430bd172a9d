-- Categories as they are offered, whatever they are offered for, and what is granted of them: for every rows whose numbers rise. Assumes nothing.
use Prim.Native.Nat.{ℕ, zero, suc, ◌≤◌, ◌<◌}
use native.Mathlib.Omega.{arith}
use mathlib.Core.Path.{◌≡◌, refl, sym, ap, ap₂, ◌∙◌, subst}
use mathlib.Core.Bool.{Bool, true, false, ◌&&◌, cond}
use Rattle.std.specs.Prelude.{Option, None, Some}
use Rattle.std.proofs.lemmas.List.{length-map}
use lib.ListN.{length, take, replicate}
use mathlib.Core.List.{List, [], ◌∷◌, ◌++◌, map}
use mathlib.Core.Logic.{inl, inr}
use borrow.Author.Tests.{le-leb, leb-true, eq-eqb, eqb-true}
use lib.Dec.{leb, eqb}
use Rattle.lists.proofs.Lists.{both}
use Rattle.facts.specs.declared.Facts.{Facts}
use Rattle.order.specs.declared.Order.{Order}
use Rattle.categories.specs.Categories.{speed_of}
use Rattle.categories.specs.declared.category.Category.{Category}
use Rattle.rules.specs.Books.{RuleBook, Rise}
use Rattle.rules.specs.Grants.{offer, stands, none_faster, better_of, best_of, absent, absent_rule, six_of, decided_by, decision_of, offer_of, offers_of, granted_of, MayBeGranted, Among, Offered, Stands, Rising, Granted, KeepsNumber, Standing}
use Rattle.rules.specs.declared.grant.Offer.{Offer}
use Rattle.rules.specs.declared.grant.Best.{Best}
use Rattle.rules.proofs.Grants.{best_granted}

-- an offer stands exactly when it is the asked or a greater one and breaks no rule
pub stands_exactly : (asked : ℕ) (x : Offer)
    → (stands asked x ≡ true → (asked ≤ x.number) × (x.broken ≡ 0))
    × (asked ≤ x.number → x.broken ≡ 0 → stands asked x ≡ true)
stands_exactly asked x = (apart, λ h e. ap₂ ◌&&◌ (le-leb asked x.number h) (eq-eqb x.broken 0 e))
  where
    apart : stands asked x ≡ true → (asked ≤ x.number) × (x.broken ≡ 0)
    apart e = let t = both (leb asked x.number) (eqb x.broken 0) e in (leb-true asked x.number t.0, eqb-true x.broken 0 t.1)

-- a category that a book does not have is passed over
pub absent_passed : (asked n speed : ℕ) (rest : Option Best) → better_of asked (offer n speed absent_rule) rest ≡ rest
absent_passed asked n speed rest = go (leb asked n)
  where
    go : (b : Bool) → cond ((b && false) && none_faster speed rest) (Some (record { number = n; speed = speed })) rest ≡ rest
    go true = refl
    go false = refl

-- so places behind a book's last category change nothing
absent_places : (asked n m : ℕ) → best_of asked (take n (replicate m absent)) ≡ None
absent_places asked zero m = refl
absent_places asked (suc n) zero = refl
absent_places asked (suc n) (suc m) = absent_passed asked 0 0 (best_of asked (take n (replicate m absent))) ∙ absent_places asked n m

absent_behind : (asked n m : ℕ) (os : List Offer) → length os ≤ n → best_of asked (take n (os ++ replicate m absent)) ≡ best_of asked os
absent_behind asked n m [] h = absent_places asked n m
absent_behind asked zero m (x ∷ os) h = absurd (omega arith)
absent_behind asked (suc n) m (x ∷ os) h = ap (better_of asked x) (absent_behind asked n m os (omega arith))

-- ---- of any rows, offered in any way that keeps their numbers
module _ (asked : ℕ) (offered : Category → Offer) (keeps : KeepsNumber offered) where
  pub among_stands : (rows : List Category) (c : Category) → Among c rows → stands asked (offered c) ≡ true → Stands asked (map offered rows) c.number (offered c).speed
  among_stands [] c a e = a
  among_stands (x ∷ rows) c (inl q) e =
      inl (ap (λ (y : Category). stands asked (offered y)) (sym q) ∙ e, sym (keeps c) ∙ ap (λ (y : Category). (offered y).number) q, ap (λ (y : Category). (offered y).speed) q)
  among_stands (x ∷ rows) c (inr a) e = inr (among_stands rows c a e)

  pub stands_among : (rows : List Category) (n s : ℕ) → Stands asked (map offered rows) n s → Standing asked offered rows n s
  stands_among [] n s w = absurd w
  stands_among (x ∷ rows) n s (inl w) = record { category = x; among = inl refl; stands = w.0; number = w.1 ∙ keeps x; speed = w.2 }
  stands_among (x ∷ rows) n s (inr w) =
      let y = stands_among rows n s w in
      record { category = y.category; among = inr y.among; stands = y.stands; number = y.number; speed = y.speed }

  rows_rise : (m : ℕ) (rows : List Category) → Rise m rows → Rising m (map offered rows)
  rows_rise m [] r = tt
  rows_rise m (x ∷ rows) r = (subst (λ (n : ℕ). m < n) (sym (keeps x)) r.0, subst (λ (n : ℕ). Rising n (map offered rows)) (sym (keeps x)) (rows_rise x.number rows r.1))

  pub rows_granted : (rows : List Category) → Rise 0 rows → Granted asked (map offered rows) (best_of asked (map offered rows))
  rows_granted rows r = best_granted asked 0 (map offered rows) (rows_rise 0 rows r)

-- ---- for the sheet of one order
module _ (b : RuleBook) (f : Facts) (o : Order) where
  offer_keeps : KeepsNumber (offer_of b f o)
  unfolding offer_of
  offer_keeps c = refl

  pub may_offered : (c : Category) → Among c b.rows → MayBeGranted b f o c → Stands o.asked (offers_of b f o) c.number (speed_of c f o)
  unfolding offer_of
  may_offered c a m = among_stands o.asked (offer_of b f o) offer_keeps b.rows c a ((stands_exactly o.asked (offer_of b f o c)).1 m.asked m.unbroken)

  pub offered_may : (n s : ℕ) → Stands o.asked (offers_of b f o) n s → Offered b f o n s
  unfolding offer_of
  offered_may n s w =
      let y = stands_among o.asked (offer_of b f o) offer_keeps b.rows n s w in
      let t = (stands_exactly o.asked (offer_of b f o y.category)).0 y.stands in
      record { category = y.category; among = y.among; may = record { asked = t.0; unbroken = t.1 }; number = y.number; speed = y.speed }

  pub is_granted : Rise 0 b.rows → Granted o.asked (offers_of b f o) (granted_of b f o)
  unfolding granted_of
  is_granted r = rows_granted o.asked (offer_of b f o) offer_keeps b.rows r

  -- what is granted is the best of what is decided to be offered, of a book with at most six categories
  pub granted_decided : length b.rows ≤ 6 → best_of o.asked (decision_of b f o).offers ≡ granted_of b f o
  unfolding decision_of granted_of
  granted_decided h = absent_behind o.asked 6 6 (offers_of b f o) (simp length-map h)

  pub decided_whole : length b.rows ≤ 6 → decided_by o.asked (decision_of b f o).offers ≡ decision_of b f o
  unfolding decision_of
  decided_whole h = λ i. record { offers = six_of (offers_of b f o); granted = granted_decided h i }
