-- Document 01, "The sheet": the first rule broken by each category, and the category granted, of any rule book.
use Rattle.std.specs.Prelude.{ℕ, ◌≤◌, ◌<◌, ◌≡◌, Bool, true, ◌&&◌, cond, Option, None, Some, List, [], ◌∷◌, ◌++◌, map, take, replicate, ◌⊎◌}
use Rattle.lists.specs.Words.{◌is◌, ◌at_most◌}
use Rattle.facts.specs.declared.Facts.{Facts}
use Rattle.order.specs.declared.Order.{Order}
use Rattle.categories.specs.Categories.{speed_of}
use Rattle.categories.specs.declared.category.Category.{Category}
use Rattle.rules.specs.Books.{RuleBook, broken_by}
use Rattle.rules.specs.declared.grant.Offer.{Offer}
use Rattle.rules.specs.declared.grant.Best.{Best}
use Rattle.rules.specs.declared.grant.Decision.{Decision}

-- a category as it is offered: its number, its speed, and the first rule it breaks, or 0
abbrev pub offer : ℕ → ℕ → ℕ → Offer
offer number speed broken = record { number = number; speed = speed; broken = broken }

unfoldable pub offer_of : RuleBook → Facts → Order → Category → Offer
offer_of b f o c = offer c.number (speed_of c f o) (broken_by b c f o)

abbrev pub offers_of : RuleBook → Facts → Order → List Offer
offers_of b f o = map (offer_of b f o) b.rows

-- it stands if it is the asked or a greater one and breaks no rule
abbrev pub stands : ℕ → Offer → Bool
stands asked x = asked at_most x.number && x.broken is 0

-- no faster one is granted of those behind
abbrev pub none_faster : ℕ → Option Best → Bool
none_faster speed None = true
none_faster speed (Some best) = best.speed at_most speed

-- an offer that stands goes before the best of those behind it unless that one is faster
abbrev pub better_of : ℕ → Offer → Option Best → Option Best
better_of asked x rest = cond (stands asked x && none_faster x.speed rest) (Some (record { number = x.number; speed = x.speed })) rest

-- of greatest speed among those that stand, the lowest number at a tie; nothing where none stands
abbrev pub best_of : ℕ → List Offer → Option Best
best_of asked [] = None
best_of asked (x ∷ rest) = better_of asked x (best_of asked rest)

unfoldable pub granted_of : RuleBook → Facts → Order → Option Best
granted_of b f o = best_of o.asked (offers_of b f o)

-- the number granted and its speed, as a sheet shows them: 0 and 0 where none is
abbrev pub granted_number : Option Best → ℕ
granted_number None = 0
granted_number (Some best) = best.number

abbrev pub granted_speed : Option Best → ℕ
granted_speed None = 0
granted_speed (Some best) = best.speed

-- no rule has this number: a category that a book does not have never stands
abbrev pub absent_rule : ℕ
absent_rule = 255

abbrev pub absent : Offer
absent = offer 0 0 absent_rule

-- a book has at most six categories
abbrev pub six_of : List Offer → List Offer
six_of offers = take 6 (offers ++ replicate 6 absent)

-- what each category offers, and the category granted
unfoldable pub decision_of : RuleBook → Facts → Order → Decision
decision_of b f o = record { offers = six_of (offers_of b f o); granted = granted_of b f o }

-- what is decided by offers
abbrev pub decided_by : ℕ → List Offer → Decision
decided_by asked offers = record { offers = offers; granted = best_of asked offers }

-- a category that may be granted: the asked or a greater one, that breaks no rule
pub record MayBeGranted (b : RuleBook) (f : Facts) (o : Order) (c : Category) : Type 0 where
  pub asked : o.asked ≤ c.number
  pub unbroken : broken_by b c f o ≡ 0

-- a category of a list of them
abbrev pub Among : Category → List Category → Type 0
Among c [] = ⊥
Among c (x ∷ rows) = (c ≡ x) ⊎ Among c rows

-- a category of this number and speed may be granted
pub record Offered (b : RuleBook) (f : Facts) (o : Order) (n s : ℕ) : Type 0 where
  pub category : Category
  pub among : Among category b.rows
  pub may : MayBeGranted b f o category
  pub number : n ≡ category.number
  pub speed : s ≡ speed_of category f o

-- ---- what is granted of any offers, said without computing it
-- an offer of the list stands, with this number and speed
abbrev pub Stands : ℕ → List Offer → ℕ → ℕ → Type 0
Stands asked [] n s = ⊥
Stands asked (x ∷ rest) n s = ((stands asked x ≡ true) × (n ≡ x.number) × (s ≡ x.speed)) ⊎ Stands asked rest n s

-- the offers' numbers rise, from above m
abbrev pub Rising : ℕ → List Offer → Type 0
Rising m [] = Unit
Rising m (x ∷ rest) = (m < x.number) × Rising x.number rest

pub record Granted (asked : ℕ) (offers : List Offer) (g : Option Best) : Type 0 where
  -- 0 is granted, at speed 0, only where none stands
  pub none : granted_number g ≡ 0 → (n s : ℕ) → Stands asked offers n s → ⊥
  pub no_speed : granted_number g ≡ 0 → granted_speed g ≡ 0
  -- and then there is none, so that one answer alone is granted
  pub nothing : granted_number g ≡ 0 → g ≡ None
  -- any other number is that of one that stands
  pub one : 0 < granted_number g → Stands asked offers (granted_number g) (granted_speed g)
  -- none that stands is faster, and none as fast has a lower number
  pub fastest : (n s : ℕ) → Stands asked offers n s → s ≤ granted_speed g
  pub lowest : (n s : ℕ) → Stands asked offers n s → s ≡ granted_speed g → granted_number g ≤ n

-- categories are offered under their own numbers
abbrev pub KeepsNumber : (Category → Offer) → Type 0
KeepsNumber offered = (c : Category) → (offered c).number ≡ c.number

-- a category of the rows stands as it is offered, with this number and speed
pub record Standing (asked : ℕ) (offered : Category → Offer) (rows : List Category) (n s : ℕ) : Type 0 where
  pub category : Category
  pub among : Among category rows
  pub stands : stands asked (offered category) ≡ true
  pub number : n ≡ category.number
  pub speed : s ≡ (offered category).speed
