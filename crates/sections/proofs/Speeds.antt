-- A category's slowest section, and its speed on each section. Assumes nothing.
use Prim.Native.Nat.{ℕ, zero, suc, ◌≤◌, ◌<◌}
use native.Mathlib.Nat.{not-suc-le-zero, le_of_suc-le-suc}
use native.Mathlib.Omega.{arith}
use native.Mathlib.Decide.{dec_le}
use mathlib.Core.Path.{◌≡◌, refl, ap, ap₂, ◌∙◌, sym}
use mathlib.Core.List.{List, [], ◌∷◌}
use mathlib.Core.Logic.{inl, inr}
use lib.ListN.{length, get_or, replicate}
use Rattle.lists.specs.Words.{Every}
use Rattle.lists.proofs.Lists.{every_map}
use Rattle.facts.specs.declared.Facts.{Facts}
use Rattle.order.specs.Orders.{no_order}
use Rattle.order.specs.declared.Order.{Order}
use Rattle.categories.specs.Categories.{speed_of, category_of}
use Rattle.categories.specs.declared.category.Category.{Category}
use Rattle.categories.proofs.Demands.{own_speed_most}
use Rattle.rules.specs.Books.{RuleBook, Rise}
use Rattle.rules.specs.Grants.{granted_of, granted_number, granted_speed, Offered}
use Rattle.rules.proofs.Demands.{category_among, category_none}
use Rattle.sections.specs.Routes.{slowest_of, section_speed, speeds_on, Somewhere}

-- ---- the slowest section
somewhere_map : (P Q : Order → Type 0) → ((x : Order) → P x → Q x) → (os : List Order) → Somewhere P os → Somewhere Q os
somewhere_map P Q h [] w = w
somewhere_map P Q h (o ∷ os) (inl p) = inl (h o p)
somewhere_map P Q h (o ∷ os) (inr w) = inr (somewhere_map P Q h os w)

module _ (c : Category) (f : Facts) where
  pub slowest_each : (os : List Order) → Every (λ o. slowest_of c f os ≤ speed_of c f o) os
  unfolding slowest_of
  slowest_each [] = tt
  slowest_each (o ∷ os) =
      (omega arith, every_map (λ (x : Order). slowest_of c f os ≤ speed_of c f x) (λ (x : Order). slowest_of c f (o ∷ os) ≤ speed_of c f x) (λ x h. omega arith) os (slowest_each os))

  pub slowest_one : (o : Order) (os : List Order) → Somewhere (λ x. slowest_of c f (o ∷ os) ≡ speed_of c f x) (o ∷ os)
  unfolding slowest_of
  slowest_one o [] = inl (omega (arith, own_speed_most c f o))
  slowest_one o (p ∷ os) = go (dec_le (speed_of c f o) (slowest_of c f (p ∷ os))) (slowest_one p os)
    where
      go : Dec (speed_of c f o ≤ slowest_of c f (p ∷ os)) → Somewhere (λ x. slowest_of c f (p ∷ os) ≡ speed_of c f x) (p ∷ os)
          → Somewhere (λ x. slowest_of c f (o ∷ p ∷ os) ≡ speed_of c f x) (o ∷ p ∷ os)
      go (yes l) w = inl (omega arith)
      go (no d) w =
          let l : slowest_of c f (p ∷ os) < speed_of c f o = omega arith in
          inr (somewhere_map (λ (x : Order). slowest_of c f (p ∷ os) ≡ speed_of c f x) (λ (x : Order). slowest_of c f (o ∷ p ∷ os) ≡ speed_of c f x) (λ x e. omega arith) (p ∷ os) w)

-- ---- one byte a section
module _ (b : RuleBook) (f : Facts) where
  pub section_byte : (n : ℕ) (os : List Order) (i : ℕ) → i < length os → get_or (speeds_on b n f os) i 0 ≡ section_speed b n f (get_or os i no_order)
  section_byte n [] i h = absurd (not-suc-le-zero h)
  section_byte n (o ∷ os) zero h = refl
  section_byte n (o ∷ os) (suc i) h = section_byte n os i (le_of_suc-le-suc h)

  module _ (rise : Rise 0 b.rows) where
    no_speed_lem : (o : Order) → section_speed b 0 f o ≡ 0
    unfolding section_speed speed_of
    no_speed_lem o = ap (λ (c : Category). speed_of c f o) (category_none b.rows rise) ∙ omega arith

    pub no_speeds : (os : List Order) → speeds_on b 0 f os ≡ replicate (length os) 0
    no_speeds [] = refl
    no_speeds (o ∷ os) = ap₂ (λ (x : ℕ) (xs : List ℕ). x ∷ xs) (no_speed_lem o) (no_speeds os)

    category_speed : (n : ℕ) (o : Order) (s : ℕ) → Offered b f o n s → section_speed b n f o ≡ s
    unfolding section_speed
    category_speed n o s x =
        let own = ap (λ (m : ℕ). category_of m b.rows) x.number ∙ category_among b.rows x.category rise x.among in
        ap (λ (c : Category). speed_of c f o) own ∙ sym x.speed

    -- the granted one's own, where the section alone grants that number
    pub alone_same : (o : Order)
        → (granted_number (granted_of b f o) ≡ 0 → granted_speed (granted_of b f o) ≡ 0)
        → (0 < granted_number (granted_of b f o) → Offered b f o (granted_number (granted_of b f o)) (granted_speed (granted_of b f o)))
        → (n : ℕ) → granted_number (granted_of b f o) ≡ n → section_speed b n f o ≡ granted_speed (granted_of b f o)
    alone_same o none one zero e = no_speed_lem o ∙ sym (none e)
    alone_same o none one (suc n) e =
        ap (λ (m : ℕ). section_speed b m f o) (sym e) ∙ category_speed (granted_number (granted_of b f o)) o (granted_speed (granted_of b f o)) (one (omega arith))
