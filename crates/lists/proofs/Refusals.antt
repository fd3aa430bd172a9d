-- Laws of what a list of refusals answers: which is given, and lists one behind the other. Assumes nothing.
use Prim.Native.Nat.{ℕ, zero, suc, ◌<◌}
use native.Mathlib.Nat.{not-suc-le-zero, le_of_suc-le-suc}
use native.Mathlib.Omega.{arith}
use mathlib.Core.Path.{◌≡◌, refl, ap}
use mathlib.Core.Bool.{Bool, true, false, cond, false≢true}
use mathlib.Core.List.{List, [], ◌∷◌, ◌++◌, map}
use lib.ListN.{length}
use Rattle.std.specs.Prelude.{Result, Ok, Err, is_ok, ⊤}
use Rattle.std.specs.Result.{result_and}
use Rattle.lists.specs.Words.{Every, Case, case_at, first_of}
use Rattle.lists.specs.Refusals.{answered}

module _ {E : Type 0} where
  pub first_refuses : (other : E) (cs : List (Case E)) (i : ℕ) → i < length cs → (case_at other cs i).applies ≡ true → ((j : ℕ) → j < i → (case_at other cs j).applies ≡ false)
      → answered cs ≡ Err (case_at other cs i).gives
  first_refuses other [] i l e f = absurd (not-suc-le-zero l)
  first_refuses other (c ∷ cs) zero l e f = rw e
  first_refuses other (c ∷ cs) (suc i) l e f = rw (f 0 (omega arith)) (first_refuses other cs i (le_of_suc-le-suc l) e (λ j k. f (suc j) (omega arith)))

  pub none_refuses : (cs : List (Case E)) → Every (λ c. c.applies ≡ false) cs → answered cs ≡ Ok tt
  none_refuses [] e = refl
  none_refuses (c ∷ cs) e = rw e.0 (none_refuses cs e.1)

  -- where nothing is refused no test holds
  pub none_of : (cs : List (Case E)) → is_ok (answered cs) ≡ true → Every (λ c. c.applies ≡ false) cs
  none_of [] e = tt
  none_of (c ∷ cs) e = go c.applies refl e (none_of cs)
    where
      go : (b : Bool) → c.applies ≡ b → is_ok (cond b (Err c.gives) (answered cs)) ≡ true → (is_ok (answered cs) ≡ true → Every (λ c. c.applies ≡ false) cs)
          → (c.applies ≡ false) × Every (λ c. c.applies ≡ false) cs
      go true q e rest = absurd (false≢true e)
      go false q e rest = (q, rest e)

  -- and it is the first that applies, as of rules
  pub answered_first : (cs : List (Case E)) → answered cs ≡ first_of (Ok tt) (map (λ (c : Case E). record { gives = Err c.gives; applies = c.applies }) cs)
  answered_first [] = refl
  answered_first (c ∷ cs) = ap (λ (r : Result ⊤ E). cond c.applies (Err c.gives) r) (answered_first cs)

  -- a list behind another is asked where that one refuses nothing
  pub answered_append : (cs ds : List (Case E)) → answered (cs ++ ds) ≡ result_and (answered cs) (answered ds)
  answered_append [] ds = refl
  answered_append (c ∷ cs) ds = go c.applies (answered_append cs ds)
    where
      go : (b : Bool) → answered (cs ++ ds) ≡ result_and (answered cs) (answered ds) → cond b (Err c.gives) (answered (cs ++ ds)) ≡ result_and (cond b (Err c.gives) (answered cs)) (answered ds)
      go true e = refl
      go false e = e
