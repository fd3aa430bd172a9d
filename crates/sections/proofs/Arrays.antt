-- An array that a closure makes of another, and two lists member by member. Assumes nothing.
use Rattle.std.proofs.Common.{ℕ, zero, suc, ◌+◌, ◌≤◌, ◌<◌, ◌≡◌, ◌∙◌, ap, sym, subst, refl, List, [], ◌∷◌, map, length, get_or, arith}
use native.Mathlib.Nat.{not-suc-le-zero, le_of_suc-le-suc}
use native.Mathlib.Decide.{dec_le}
use mathlib.Core.List.{zip_with}
use denote.Param.Members.{Mut, Called}
use Rattle.std.proofs.lemmas.List.{same_lists, length-map, get_or-map}
use Rattle.std.specs.Array.{IsFromFnResult, IsFromFnResultFrom, IsMapOf, MapsFrom}

-- of each number below n
module _ {F B : Type 0} (g : Mut F (ℕ × Unit {0}) B) (h : ℕ → B) (f : F) (made : (i : ℕ) (y : B) (q : F) → Called g f (i, tt) y q → (q ≡ f) × (y ≡ h i)) (ys : List B) where
  made_from : (n i : ℕ) → IsFromFnResultFrom g f ys i n → (k : ℕ) (d : B) → i ≤ k → k < i + n → get_or ys k d ≡ h k
  made_from zero i r k d l u = absurd (omega arith)
  made_from (suc n) i r k d l u =
      go (dec_le (i + 1) k)
      (λ more. made_from n (i + 1) (subst (λ (p : F). IsFromFnResultFrom g p ys (i + 1) n) (made i r.1 r.0 r.3).0 r.4) k d more (omega arith))
    where
      go : Dec (i + 1 ≤ k) → (i + 1 ≤ k → get_or ys k d ≡ h k) → get_or ys k d ≡ h k
      go (yes more) rest = rest more
      go (no here) rest =
          let at : k ≡ i = omega arith in
          ap (λ (j : ℕ). get_or ys j d) at ∙ r.2.1 d ∙ (made i r.1 r.0 r.3).1 ∙ ap h (sym at)

pub from_fn_at : {F B : Type 0} {g : Mut F (ℕ × Unit {0}) B} {f : F} {ys : List B} {n : ℕ} → IsFromFnResult g f ys n → (h : ℕ → B)
    → ((i : ℕ) (y : B) (q : F) → Called g f (i, tt) y q → (q ≡ f) × (y ≡ h i)) → (k : ℕ) (d : B) → k < n → get_or ys k d ≡ h k
from_fn_at {g = g} {f = f} {ys = ys} {n = n} r h made k d u = made_from g h f made ys n 0 r.each k d (omega arith) (omega arith)

-- of each member of a list
module _ {F A B : Type 0} (g : Mut F (A × Unit {0}) B) (v : A → B) (f : F) (made : (x : A) (y : B) (q : F) → Called g f (x, tt) y q → (q ≡ f) × (y ≡ v x)) (xs : List A) (ys : List B) where
  maps_from : (n i : ℕ) → MapsFrom g f xs ys i n → (k : ℕ) (d : A) (e : B) → i ≤ k → k < i + n → get_or ys k e ≡ v (get_or xs k d)
  maps_from zero i r k d e l u = absurd (omega arith)
  maps_from (suc n) i r k d e l u =
      go (dec_le (i + 1) k)
      (λ more. maps_from n (i + 1) (subst (λ (p : F). MapsFrom g p xs ys (i + 1) n) (made r.1 r.2 r.0 r.5).0 r.6) k d e more (omega arith))
    where
      go : Dec (i + 1 ≤ k) → (i + 1 ≤ k → get_or ys k e ≡ v (get_or xs k d)) → get_or ys k e ≡ v (get_or xs k d)
      go (yes more) rest = rest more
      go (no here) rest =
          let at : k ≡ i = omega arith in
          ap (λ (j : ℕ). get_or ys j e) at ∙ r.4.1 e ∙ (made r.1 r.2 r.0 r.5).1 ∙ ap v (sym (r.3.1 d)) ∙ ap (λ (j : ℕ). v (get_or xs j d)) (sym at)

-- where there is a member to stand for one beyond the last
pub array_map : {F A B : Type 0} {g : Mut F (A × Unit {0}) B} {f : F} {xs : List A} {ys : List B} {n : ℕ} → IsMapOf g f xs ys n → (v : A → B)
    → ((x : A) (y : B) (q : F) → Called g f (x, tt) y q → (q ≡ f) × (y ≡ v x)) → A → length xs ≡ n → ys ≡ map v xs
array_map {g = g} {f = f} {xs = xs} {ys = ys} {n = n} r v made d e =
    same_lists ys (map v xs) (r.long ∙ sym e ∙ sym (length-map xs v))
    (λ k y h.
    let below : k < n = omega (arith, r.long) in
    let within : k < length xs = omega arith in
    maps_from g v f made xs ys n 0 r.each k d y (omega arith) (omega arith) ∙ sym (get_or-map v xs k d y within))

-- two lists, member by member
module _ {A : Type 0} (g : A → A → A) where
  pub zipped_at : (xs ys : List A) (k : ℕ) (d : A) → k < length xs → k < length ys → get_or (zip_with g xs ys) k d ≡ g (get_or xs k d) (get_or ys k d)
  unfolding zip_with
  zipped_at [] ys k d h l = absurd (not-suc-le-zero h)
  zipped_at (x ∷ xs) [] k d h l = absurd (not-suc-le-zero l)
  zipped_at (x ∷ xs) (y ∷ ys) zero d h l = refl
  zipped_at (x ∷ xs) (y ∷ ys) (suc k) d h l = zipped_at xs ys k d (le_of_suc-le-suc h) (le_of_suc-le-suc l)

  pub length_zipped : (xs ys : List A) → length xs ≡ length ys → length (zip_with g xs ys) ≡ length xs
  unfolding zip_with
  length_zipped [] ys e = refl
  length_zipped (x ∷ xs) [] e = absurd (omega arith)
  length_zipped (x ∷ xs) (y ∷ ys) e = ap suc (length_zipped xs ys (omega arith))
