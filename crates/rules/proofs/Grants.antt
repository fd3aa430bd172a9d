-- What is granted, said without computing it: what `best_of` computes is that, and nothing else is. Assumes nothing.
use Prim.Native.Nat.{ℕ, zero, suc, ◌≤◌, ◌<◌}
use native.Mathlib.Omega.{arith}
use mathlib.Core.Path.{◌≡◌, refl, sym, ap, ◌∙◌}
use mathlib.Core.Bool.{Bool, true, false, ◌&&◌, cond, false≢true}
use Rattle.std.specs.Prelude.{Option, None, Some, reverse}
use Rattle.std.specs.List.{fold}
use Rattle.std.proofs.lemmas.List.{reverse-append}
use Rattle.std.proofs.lemmas.List.Sums.{fold_push}
use mathlib.Core.List.{List, [], ◌∷◌}
use mathlib.Core.Logic.{◌⊎◌, inl, inr}
use borrow.Author.Tests.{leb-true, leb-false}
use lib.Dec.{leb}
use Rattle.rules.specs.Grants.{stands, none_faster, best_of, better_of, granted_number, granted_speed, Stands, Rising, Granted}
use Rattle.rules.specs.declared.grant.Offer.{Offer}
use Rattle.rules.specs.declared.grant.Best.{Best}

module _ (asked : ℕ) where
  above : (m : ℕ) (os : List Offer) → Rising m os → (n s : ℕ) → Stands asked os n s → m < n
  above m [] r n s w = absurd w
  above m (x ∷ os) r n s (inl w) = let p = r.0 in let q = w.1 in omega arith
  above m (x ∷ os) r n s (inr w) = let p = r.0 in let q = above x.number os r.1 n s w in omega arith

  -- the first does not stand, or is slower
  pass : (x : Offer) (os : List Offer) (g : Option Best) → ((stands asked x ≡ true) → x.speed < granted_speed g) → Granted asked os g → Granted asked (x ∷ os) g
  pass x os g f w = record { none = none; no_speed = w.no_speed; nothing = w.nothing; one = λ z. inr (w.one z); fastest = fast; lowest = low }
    where
      none : granted_number g ≡ 0 → (n s : ℕ) → Stands asked (x ∷ os) n s → ⊥
      none z n s (inl v) = let p = f v.0 in let q = w.no_speed z in omega arith
      none z n s (inr v) = w.none z n s v

      fast : (n s : ℕ) → Stands asked (x ∷ os) n s → s ≤ granted_speed g
      fast n s (inl v) = let p = f v.0 in let q = v.2 in omega arith
      fast n s (inr v) = w.fastest n s v

      low : (n s : ℕ) → Stands asked (x ∷ os) n s → s ≡ granted_speed g → granted_number g ≤ n
      low n s (inl v) e = let p = f v.0 in let q = v.2 in omega arith
      low n s (inr v) e = w.lowest n s v e

  -- the first stands and is as fast
  take_first : (m : ℕ) (x : Offer) (os : List Offer) (g : Option Best) → stands asked x ≡ true → m < x.number → Rising x.number os → granted_speed g ≤ x.speed → Granted asked os g
      → Granted asked (x ∷ os) (Some (record { number = x.number; speed = x.speed }))
  take_first m x os g b p r f w =
      record { none = λ z n s v. omega arith; no_speed = λ z. absurd (omega arith); nothing = λ z. absurd (omega arith); one = λ z. inl (b, refl, refl); fastest = fast; lowest = low }
    where
      fast : (n s : ℕ) → Stands asked (x ∷ os) n s → s ≤ x.speed
      fast n s (inl v) = let q = v.2 in omega arith
      fast n s (inr v) = let q = w.fastest n s v in omega arith

      low : (n s : ℕ) → Stands asked (x ∷ os) n s → s ≡ x.speed → x.number ≤ n
      low n s (inl v) e = let q = v.1 in omega arith
      low n s (inr v) e = let q = above x.number os r n s v in omega arith

  -- what is computed is granted
  pub best_granted : (m : ℕ) (os : List Offer) → Rising m os → Granted asked os (best_of asked os)
  best_granted m [] r =
      record { none = λ z n s w. w; no_speed = λ z. refl; nothing = λ z. refl; one = λ z. absurd (omega arith); fastest = λ n s w. absurd w; lowest = λ n s w e. absurd w }
  best_granted m (x ∷ os) r = go (stands asked x) refl (best_of asked os) (best_granted x.number os r.1)
    where
      go : (b : Bool) → stands asked x ≡ b → (g : Option Best) → Granted asked os g → Granted asked (x ∷ os) (cond (b && none_faster x.speed g) (Some (record { number = x.number; speed = x.speed })) g)
      go false e g w = pass x os g (λ z. absurd (false≢true (sym e ∙ z))) w
      go true e None w = take_first m x os None e r.0 r.1 (omega arith) w
      go true e (Some best) w = than (leb best.speed x.speed) refl
        where
          than : (t : Bool) → leb best.speed x.speed ≡ t → Granted asked (x ∷ os) (cond t (Some (record { number = x.number; speed = x.speed })) (Some best))
          than true f = take_first m x os (Some best) e r.0 r.1 (leb-true best.speed x.speed f) w
          than false f = pass x os (Some best) (λ z. leb-false best.speed x.speed f) w

  zero_or : (n : ℕ) → (n ≡ 0) ⊎ (0 < n)
  zero_or zero = inl refl
  zero_or (suc n) = inr (omega arith)

  -- none is granted exactly when none stands; of `Granted` the field `one` is asked alone
  pub none_exactly : (os : List Offer) (g : Option Best) → (0 < granted_number g → Stands asked os (granted_number g) (granted_speed g)) → ((n s : ℕ) → Stands asked os n s → ⊥) → granted_number g ≡ 0
  none_exactly os g one f = go (zero_or (granted_number g))
    where
      go : (granted_number g ≡ 0) ⊎ (0 < granted_number g) → granted_number g ≡ 0
      go (inl p) = p
      go (inr p) = absurd (f (granted_number g) (granted_speed g) (one p))

  -- and then the answer is that there is none
  pub nothing_exactly : (os : List Offer) (g : Option Best) → Granted asked os g → ((n s : ℕ) → Stands asked os n s → ⊥) → g ≡ None
  nothing_exactly os g w f = w.nothing (none_exactly os g w.one f)

  -- so no second answer is granted
  same_number : (a b : Option Best) → granted_number a ≡ granted_number b → granted_speed a ≡ granted_speed b → (granted_number a ≡ 0 → a ≡ None) → (granted_number b ≡ 0 → b ≡ None) → a ≡ b
  same_number None None n s p q = refl
  same_number None (Some b) n s p q = sym (q (sym n))
  same_number (Some a) None n s p q = p n
  same_number (Some a) (Some b) n s p q = λ i. Some (record { number = n i; speed = s i })

  pub granted_alone : (os : List Offer) (g h : Option Best) → Granted asked os g → Granted asked os h → g ≡ h
  granted_alone os g h v w = go (zero_or (granted_number g)) (zero_or (granted_number h))
    where
      go : (granted_number g ≡ 0) ⊎ (0 < granted_number g) → (granted_number h ≡ 0) ⊎ (0 < granted_number h) → g ≡ h
      go (inl p) (inl q) = v.nothing p ∙ sym (w.nothing q)
      go (inl p) (inr q) = absurd (v.none p (granted_number h) (granted_speed h) (w.one q))
      go (inr p) (inl q) = absurd (w.none q (granted_number g) (granted_speed g) (v.one p))
      go (inr p) (inr q) =
          let a = v.one p in
          let b = w.one q in
          let speed : granted_speed g ≡ granted_speed h = omega (arith, w.fastest (granted_number g) (granted_speed g) a, v.fastest (granted_number h) (granted_speed h) b) in
          let number : granted_number g ≡ granted_number h = omega (arith, v.lowest (granted_number h) (granted_speed h) b (sym speed), w.lowest (granted_number g) (granted_speed g) a speed) in
          same_number g h number speed v.nothing w.nothing

  -- gone through from the last offer to the first
  pub best_from_last : (os : List Offer) → fold (λ rest x. better_of asked x rest) None (reverse os) ≡ best_of asked os
  best_from_last [] = refl
  best_from_last (x ∷ os) =
      let step : Option Best → Offer → Option Best = λ rest x. better_of asked x rest in
      ap (fold step None) (reverse-append (x ∷ []) os) ∙ fold_push step None (reverse os) x ∙ ap (better_of asked x) (best_from_last os)
