-- `speed::holds_the_speed` meets its contract: each way out is one case of the definition. Assumes nothing.
use native.Mathlib.Omega.{arith}
use mathlib.Core.Path.{sym, ap₂, ◌∙◌}
use mathlib.Core.Bool.{◌&&◌}
use Rattle.speed.proofs.Speeds.{speed_bad, speed_many, speed_found, some_slowest, none_slowest, chunked}
use Rattle.speed.proofs.holds_the_speed.Goals as goal

pub returns-then-not-is_whole_good : goal.returns-then-not-is_whole_good
returns-then-not-is_whole_good c =
    speed_bad _ _ (sym (ap₂ ◌&&◌ c.is_whole_good.ensures c.is_whole_good-2.ensures) ∙ c.if-not-is_whole_good.true)

pub returns-then-ahead-behind-gt-MOST : goal.returns-then-ahead-behind-gt-MOST
returns-then-ahead-behind-gt-MOST c =
    speed_many c.args.front.now c.args.back.now (omega (arith, c.as_chunks.ensures.front_len, c.as_chunks-2.ensures.front_len))

pub returns-in-Some : goal.returns-in-Some
returns-in-Some c =
    some_slowest _ _ (c.in-Some.ensures ∙ chunked _ _ c.as_chunks.ensures.front c.as_chunks-2.ensures.front)
    ∙ speed_found _ _ (sym (ap₂ ◌&&◌ c.is_whole_good.ensures c.is_whole_good-2.ensures) ∙ c.if-not-is_whole_good.false) (omega (arith, c.as_chunks.ensures.front_len, c.as_chunks-2.ensures.front_len))

pub returns-in-None : goal.returns-in-None
returns-in-None c =
    none_slowest _ (c.in-None.ensures ∙ chunked _ _ c.as_chunks.ensures.front c.as_chunks-2.ensures.front)
    ∙ speed_found _ _ (sym (ap₂ ◌&&◌ c.is_whole_good.ensures c.is_whole_good-2.ensures) ∙ c.if-not-is_whole_good.false) (omega (arith, c.as_chunks.ensures.front_len, c.as_chunks-2.ensures.front_len))
