-- `closing::closes` meets its contract: by `twelve`. Assumes nothing.
use Prim.Native.Nat.{ℕ}
use mathlib.Core.Path.{refl, ap}
use Rattle.lists.specs.Words.{◌is◌}
use Rattle.closing.specs.Closing.{closes as closing}
use Rattle.closing.proofs.Sums.{twelve}
use Rattle.closing.proofs.closes.Goals as goal

pub returns : goal.returns
unfolding closing
returns c =
    let n = c.args.number in
    ap (λ (x : ℕ). x is 0) (twelve n _ _ c.sum_of_six-left.result c.sum_of_six-right.result c.sum_of_six-left.ensures.0 c.sum_of_six-right.ensures.0 refl refl)
