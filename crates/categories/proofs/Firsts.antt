-- The first of a list that passes, as it is looked up and as it is defined. Assumes nothing.
use Rattle.std.specs.Prelude.{ℕ, ◌≡◌, refl, not, Bool, true, false, cond, Option, None, Some, List, [], ◌∷◌, map}
use Rattle.std.specs.List.{find}
use Rattle.std.specs.Option.{unwrap_or, option_map, MatchOption}
use denote.Ref.{Bor}
use Rattle.std.proofs.Common.{ap, ◌∙◌}
use Rattle.lists.specs.Words.{◌is◌, ◌at_most◌, first_of}
use Rattle.categories.specs.Categories.{first_present}

pub first_found : (limits : List ℕ) → unwrap_or (find (λ limit. not (limit is 0)) limits) 0 ≡ first_present limits
first_found [] = refl
first_found (limit ∷ limits) = go (limit is 0) (first_found limits)
  where
    go : (b : Bool) → unwrap_or (find (λ limit. not (limit is 0)) limits) 0 ≡ first_present limits
        → unwrap_or (cond (not b) (Some limit) (find (λ limit. not (limit is 0)) limits)) 0 ≡ cond b (first_present limits) limit
    go true rest = rest
    go false rest = refl

-- the number of the first step that a length is at most, or the one beyond
module _ (beyond length : ℕ) where
  step_first : (steps : List (ℕ × ℕ)) → unwrap_or (option_map (λ step. step.1) (find (λ step. length at_most step.0) steps)) beyond
      ≡ first_of beyond (map (λ step. record { gives = step.1; applies = length at_most step.0 }) steps)
  step_first [] = refl
  step_first (step ∷ steps) = go (length at_most step.0) (step_first steps)
    where
      go : (b : Bool) → unwrap_or (option_map (λ step. step.1) (find (λ step. length at_most step.0) steps)) beyond
          ≡ first_of beyond (map (λ step. record { gives = step.1; applies = length at_most step.0 }) steps)
          → unwrap_or (option_map (λ step. step.1) (cond b (Some step) (find (λ step. length at_most step.0) steps))) beyond
          ≡ cond b step.1 (first_of beyond (map (λ step. record { gives = step.1; applies = length at_most step.0 }) steps))
      go true rest = refl
      go false rest = rest

  pub step_found : (steps : List (ℕ × ℕ)) (found : Option (Bor (ℕ × ℕ))) → option_map (λ step. step.now) found ≡ find (λ step. length at_most step.0) steps
      → (p : ℕ) → MatchOption found (p ≡ beyond) (λ step. p ≡ step.now.1)
      → p ≡ first_of beyond (map (λ step. record { gives = step.1; applies = length at_most step.0 }) steps)
  step_found steps found e p m = given found m ∙ ap (λ o. unwrap_or (option_map (λ step. step.1) o) beyond) e ∙ step_first steps
    where
      given : (o : Option (Bor (ℕ × ℕ))) → MatchOption o (p ≡ beyond) (λ step. p ≡ step.now.1)
          → p ≡ unwrap_or (option_map (λ step. step.1) (option_map (λ step. step.now) o)) beyond
      given None m = m
      given (Some step) m = m
