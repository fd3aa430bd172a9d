-- `facts::facts_beside` meets its contract: the two engines' figures together are those of both. Assumes nothing.
use native.Mathlib.Omega.{arith}
use Prim.Native.Nat.{ℕ, min}
use mathlib.Core.Path.{◌≡◌, sym, ap, ap₂, ◌∙◌}
use mathlib.Core.List.{List}
use lib.ListN.{length, take, drop}
use Rattle.record.specs.Vehicles.{reading}
use Rattle.facts.specs.Engines.{engines_of, taken, both_of, engines_in}
use Rattle.facts.specs.Facts.{beside_of, held}
use Rattle.facts.specs.declared.engine.Engines.{Engines}
use Rattle.facts.proofs.Engines.{engines_append, first_cut, rest_cut}
use Rattle.facts.proofs.facts_beside.Goals as goal

pub returns : goal.returns
unfolding engines_in
returns c =
    let w = c.args.engines.now in
    let n = c.min.result in
    let cut : n ≡ min 24 (length w) = omega arith in
    let figures : List ℕ → Engines = λ l. engines_of (taken (reading l)) in
    c.beside.ensures
    ∙ ap (λ (e : Engines). held (beside_of e c.args.hauled))
    (ap₂ both_of (c.engine_at.ensures ∙ ap figures (c.split_at.ensures.front ∙ first_cut w n cut)) (c.engine_at-2.ensures ∙ ap figures (c.split_at.ensures.back ∙ rest_cut w n cut))
    ∙ sym (engines_append (taken (reading (take 24 w))) (taken (reading (drop 24 w)))))
