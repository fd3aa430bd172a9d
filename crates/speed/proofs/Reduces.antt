-- What `reduce` of an iterator's items is, where a function computes a list's. Assumes nothing.
use mathlib.Core.Path.{◌≡◌, refl, sym, ap, subst, ◌∙◌}
use mathlib.Core.List.{List, [], ◌∷◌, map}
use denote.Param.Members.{Mut}
use Rattle.std.specs.Prelude.{Option, Some, None}
use Rattle.std.specs.Fn.{Called}
use Rattle.std.specs.Iterator.{FoldTurn, ReducesItems}
use Rattle.std.specs.List.{FoldsTo, fold, reduce}
use Rattle.std.specs.Option.{option_map}
use Rattle.std.proofs.lemmas.Iterator.{YieldsList}
use Rattle.std.proofs.iter.Yields.{gives_Drains}

-- f is called on two items, and what v reads of its answer is h of what v reads of them
module _ {F A B : Type 0} (v : A → B) (g : Mut F (A × (A × Unit {0})) A) (h : B → B → B) (f : F) (k : (a x b : A) (q : F) → Called g f (a, (x, tt)) b q → (q ≡ f) × (v b ≡ h (v a) (v x))) where
  folds : (xs : List A) (p q : F × A) → p.0 ≡ f → FoldsTo {P = F × A} (FoldTurn g) p xs q → v q.1 ≡ fold h (v p.1) (map v xs)
  folds [] p q e c = ap (λ w. v w.1) (sym c)
  folds (x ∷ xs) p q e c =
      let m = k p.1 x c.0.1 c.0.0 (subst (λ w. Called g w (p.1, (x, tt)) c.0.1 c.0.0) e c.1) in
      folds xs c.0 q m.0 c.2 ∙ ap (λ b. fold h b (map v xs)) m.1

  pub reduced : {S : Type 0} {steps : S → Option A → S → Type 0} {s : S} {all : List B} (r : Option A) → ReducesItems steps g s f r → YieldsList steps v s all → option_map v r ≡ reduce h all
  reduced {steps = steps} {s = s} {all = all} None d e = ap (reduce h) (gives_Drains steps v [] all s e.runs d)
  reduced {steps = steps} {s = s} {all = all} (Some y) d e =
      ap Some (folds d.1 (f, d.0) (d.2, y) refl d.4) ∙ ap (reduce h) (gives_Drains steps v (d.0 ∷ d.1) all s e.runs d.3)
