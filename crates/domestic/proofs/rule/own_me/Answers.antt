-- `domestic::rule::own_me` meets its contract: each mark is 1 or 0. Assumes nothing.
use Prim.Native.Nat.{◌+◌, ◌*◌}
use native.Mathlib.Omega.{arith}
use Rattle.domestic.proofs.Words.{mark_is, mark_most}
use Rattle.domestic.proofs.rule.own_me.Goals as goal

pub returns : goal.returns
returns c =
    let m1 = mark_is _ _ c.from.ensures in
    let m2 = mark_is _ _ c.from-2.ensures in
    let m3 = mark_is _ _ c.from-3.ensures in
    let m4 = mark_is _ _ c.from-4.ensures in
    let m5 = mark_is _ _ c.from-5.ensures in
    let m6 = mark_is _ _ c.from-6.ensures in
    let m7 = mark_is _ _ c.from-7.ensures in (
      λ i. 2 * m1 i + 4 * m2 i + 16 * m3 i + 64 * m4 i + 128 * m5 i + 8192 * m6 i + 131072 * m7 i,
      omega (arith, mark_most _ _ c.from.ensures, mark_most _ _ c.from-2.ensures, mark_most _ _ c.from-3.ensures, mark_most _ _ c.from-4.ensures, mark_most _ _ c.from-5.ensures, mark_most _ _ c.from-6.ensures, mark_most _ _ c.from-7.ensures),
    )
