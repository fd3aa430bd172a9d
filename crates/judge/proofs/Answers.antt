-- Laws of answers one behind the other. Assumes nothing.
use mathlib.Core.Path.{◌≡◌, refl, sym, ap, ◌∙◌}
use mathlib.Core.Bool.{true, false, false≢true}
use mathlib.Core.List.{List, ◌++◌}
use Rattle.std.specs.Prelude.{Result, Ok, Err, is_ok, ⊤}
use Rattle.std.specs.Result.{IsErrAnd, result_and, result_or}
use Rattle.lists.specs.Words.{Every, Case}
use Rattle.lists.specs.Refusals.{answered}
use Rattle.lists.proofs.Refusals.{none_refuses, answered_append}

pub ok_is : {E : Type 0} (a : Result ⊤ E) → is_ok a ≡ true → a ≡ Ok tt
ok_is (Ok x) h = refl
ok_is (Err e) h = absurd (false≢true h)

-- what a `?` hands on
pub exits : {T E : Type 0} (r : Result T E) (e : E) {s : Result T E} → IsErrAnd r (λ d. d ≡ e) → s ≡ Err e → r ≡ s
exits (Ok x) e p h = absurd p
exits (Err d) e p h = ap Err p ∙ sym h

module _ {A T E : Type 0} where
  -- the first refusal, and what is asked behind an answer that is Ok
  pub stops : {a : Result A E} {e : E} (rest : Result T E) → a ≡ Err e → result_and a rest ≡ Err e
  stops rest h = ap (λ (x : Result A E). result_and x rest) h

  pub passes : {a : Result A E} {y : A} (rest : Result T E) → a ≡ Ok y → result_and a rest ≡ rest
  passes rest h = ap (λ (x : Result A E). result_and x rest) h

  -- where both are Ok together, each is
  pub both_ok : (a : Result A E) (b : Result T E) → is_ok (result_and a b) ≡ true → (is_ok a ≡ true) × (is_ok b ≡ true)
  both_ok (Ok x) b h = (refl, h)
  both_ok (Err e) b h = absurd (false≢true h)

  pub and_assoc : {U : Type 0} (a : Result A E) (b : Result T E) (c : Result U E) → result_and (result_and a b) c ≡ result_and a (result_and b c)
  and_assoc (Ok x) b c = refl
  and_assoc (Err e) b c = refl

  -- a value beside an answer
  pub and_err : (a : Result A E) (x : T) {e : E} → result_and a (Ok x) ≡ Err e → a ≡ Err e
  and_err (Ok y) x h = cc
  and_err (Err d) x h = cc

  pub and_ok : (a : Result A E) {x y : T} → result_and a (Ok x) ≡ Ok y → (is_ok a ≡ true) × (y ≡ x)
  and_ok (Ok z) h = (refl, cc)
  and_ok (Err d) h = absurd (let g : ⊥ = cc in g)

module _ {A D E : Type 0} where
  -- in place of whatever refusal, this one
  pub or_err : (r : Result A D) {w e : E} → result_or r (Err w) ≡ Err e → (is_ok r ≡ false) × (e ≡ w)
  or_err (Ok x) h = absurd (let g : ⊥ = cc in g)
  or_err (Err d) h = (refl, cc)

  pub or_ok : (r : Result A D) (w : E) {a : A} → result_or r (Err w) ≡ Ok a → r ≡ Ok a
  or_ok (Ok x) w h = cc
  or_ok (Err d) w h = cc

-- ---- three groups of refusals, one behind the other
module _ {E : Type 0} (first lent behind : List (Case E)) where
  pub around_groups : answered (first ++ (lent ++ behind)) ≡ result_and (answered first) (result_and (answered lent) (answered behind))
  around_groups = answered_append first (lent ++ behind) ∙ ap (result_and (answered first)) (answered_append lent behind)

  -- where the whole is Ok no test of any of them holds
  pub all_passed : is_ok (answered (first ++ (lent ++ behind))) ≡ true → (is_ok (answered first) ≡ true) × (is_ok (answered lent) ≡ true) × (is_ok (answered behind) ≡ true)
  all_passed d =
      let p = both_ok (answered first) (result_and (answered lent) (answered behind)) (ap is_ok (sym around_groups) ∙ d) in
      let q = both_ok (answered lent) (answered behind) p.1 in
      (p.0, q.0, q.1)

  -- and a value beside the whole is judged group by group
  pub around_value : {T : Type 0} (x : T) → result_and (answered first) (result_and (answered lent) (result_and (answered behind) (Ok x))) ≡ result_and (answered (first ++ (lent ++ behind))) (Ok x)
  around_value x =
      ap (result_and (answered first)) (sym (and_assoc (answered lent) (answered behind) (Ok x)))
      ∙ sym (and_assoc (answered first) (result_and (answered lent) (answered behind)) (Ok x))
      ∙ ap (λ (a : Result ⊤ E). result_and a (Ok x)) (sym around_groups)

  -- where no test of the first holds and the second refuses
  pub lent_refused : Every (λ c. c.applies ≡ false) first → is_ok (answered lent) ≡ false → answered (first ++ (lent ++ behind)) ≡ answered lent
  lent_refused none refused = around_groups ∙ passes _ (none_refuses first none) ∙ go (answered lent) refused
    where
      go : (a : Result ⊤ E) → is_ok a ≡ false → result_and a (answered behind) ≡ a
      go (Ok x) h = absurd (false≢true (sym h))
      go (Err e) h = refl
