-- What the library's words make of a list, by the words of lists. Assumes nothing.
use Rattle.std.proofs.Common.{◌≡◌, ℕ, ◌+◌, ◌%◌, Bool, true, false, ◌||◌, cond, List, [], ◌∷◌, refl, ap, ◌∙◌, sym, arith}
use Rattle.std.specs.Prelude.{count_by}
use Rattle.std.specs.List.{list_any}
use Rattle.std.proofs.lemmas.List.Recursion.{is_count_by}
use Rattle.lists.specs.Figures.{count, some}

pub counted : (p : ℕ → Bool) (xs : List ℕ) → count_by p xs ≡ count p xs
counted p xs = sym (is_count_by (count p) p refl (λ x xs. go (p x) (count p xs)) xs)
  where
    go : (b : Bool) (n : ℕ) → cond b 1 0 + n ≡ cond b (1 + n) n
    go true n = refl
    go false n = omega arith

-- the byte of a figure in 32 bits is that of the sum
pub low_byte : (x : ℕ) → x % 4294967296 % 256 ≡ x % 256
low_byte x = omega arith

-- one has either where one has the first, or one the second
pub some_or : (p q : ℕ → Bool) (xs : List ℕ) → (list_any p xs || list_any q xs) ≡ some (λ x. p x || q x) xs
some_or p q [] = refl
some_or p q (x ∷ xs) = go (p x) (q x) (list_any p xs) (list_any q xs) ∙ ap (λ (b : Bool). (p x || q x) || b) (some_or p q xs)
  where
    go : (a b c d : Bool) → ((a || c) || (b || d)) ≡ ((a || b) || (c || d))
    go true b c d = refl
    go false true true d = refl
    go false true false d = refl
    go false false c d = refl
