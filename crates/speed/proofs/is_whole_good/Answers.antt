-- `speed::is_whole_good` meets its contract. Assumes nothing.
use mathlib.Core.Path.{◌≡◌, refl, ap, ◌∙◌}
use mathlib.Core.Bool.{Bool, true, false, not}
use borrow.Author.Tests.{eq-eqb, ne_eqb}
use Prim.Native.Nat.{ℕ}
use Rattle.std.specs.Prelude.{Option, Some, None, is_some}
use Rattle.record.proofs.Vehicles.{is_nothing, bad_is}
use Rattle.speed.specs.Speed.{whole_good}
use Rattle.speed.proofs.is_whole_good.Goals as goal

none_is : (o : Option ℕ) (b : Bool) → is_some o ≡ not b → b ≡ is_nothing o
none_is (Some x) true e = e
none_is (Some x) false e = refl
none_is None true e = refl
none_is None false e = e

pub returns-then-is_multiple_of : goal.returns-then-is_multiple_of
unfolding whole_good
returns-then-is_multiple_of c =
    rw (eq-eqb _ 0 (c.is_multiple_of.ensures.0 c.if-is_multiple_of.true)) (none_is _ _ c.is_none.ensures ∙ ap is_nothing c.first_bad.ensures ∙ bad_is _)

pub returns-else-is_multiple_of : goal.returns-else-is_multiple_of
unfolding whole_good
returns-else-is_multiple_of c =
    rw (c.if-is_multiple_of.false, ne_eqb _ 0 (λ e. let t = c.is_multiple_of.ensures.1 e in cc))
