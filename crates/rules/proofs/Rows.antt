-- The rows of a book: the category of a number, where the numbers rise. Assumes nothing.
use Prim.Native.Nat.{ℕ, ◌≤◌, ◌<◌}
use native.Mathlib.Omega.{arith}
use mathlib.Core.Path.{◌≡◌, refl, sym, ap, ◌∙◌}
use mathlib.Core.Bool.{Bool, cond}
use mathlib.Core.List.{List, [], ◌∷◌}
use mathlib.Core.Logic.{inl, inr}
use borrow.Author.Tests.{eq-eqb, ne_eqb}
use Rattle.categories.specs.Categories.{none, category_of}
use Rattle.categories.specs.declared.category.Category.{Category}
use Rattle.rules.specs.Books.{Rise}
use Rattle.rules.specs.Grants.{Among}

-- a category of rows that rise from above m
above : (m : ℕ) (rows : List Category) (c : Category) → Rise m rows → Among c rows → m < c.number
above m [] c r a = absurd a
above m (x ∷ rows) c r (inl e) = let n = ap (λ (y : Category). y.number) e in omega (arith, r.0, n)
above m (x ∷ rows) c r (inr a) = omega (arith, r.0, above x.number rows c r.1 a)

other : (n : ℕ) (x : Category) (rows : List Category) → (n ≡ x.number → ⊥) → category_of n (x ∷ rows) ≡ category_of n rows
other n x rows d = ap (λ (b : Bool). cond b x (category_of n rows)) (ne_eqb n x.number d)

-- a category is the one of its number
pub category_among : (m : ℕ) (rows : List Category) (c : Category) → Rise m rows → Among c rows → category_of c.number rows ≡ c
category_among m [] c r a = absurd a
category_among m (x ∷ rows) c r (inl e) =
    ap (λ (b : Bool). cond b x (category_of c.number rows)) (eq-eqb c.number x.number (ap (λ (y : Category). y.number) e)) ∙ sym e
category_among m (x ∷ rows) c r (inr a) =
    other c.number x rows (λ e. omega (arith, e, above x.number rows c r.1 a)) ∙ category_among x.number rows c r.1 a

-- and a number that is not above those the rows rise from has none
pub category_none : (n m : ℕ) (rows : List Category) → n ≤ m → Rise m rows → category_of n rows ≡ none
category_none n m [] h r = refl
category_none n m (x ∷ rows) h r =
    let p : m < x.number = r.0 in
    other n x rows (λ e. omega arith) ∙ category_none n x.number rows (omega arith) r.1
