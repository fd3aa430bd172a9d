-- `domestic::rule::number_at` meets its contract: the numbers rise from 60 by one. Assumes nothing.
use native.Mathlib.Omega.{arith}
use lib.Count.{count_trailing_zeros}
use Rattle.domestic.proofs.Words.{rising_at, rising_past}
use Rattle.domestic.proofs.rule.number_at.Goals as goal

pub returns-then-place-lt29 : goal.returns-then-place-lt29
returns-then-place-lt29 c = λ t f. rising_at 60 29 (count_trailing_zeros 32 c.args.word) (omega (arith, c.if-place-lt29.true))

pub returns-else-place-lt29 : goal.returns-else-place-lt29
returns-else-place-lt29 c = λ t f. rising_past 60 29 (count_trailing_zeros 32 c.args.word) (omega (arith, c.if-place-lt29.false))
