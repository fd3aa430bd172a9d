-- The margin as a difference of two naturals, its sign and its size. Assumes nothing.
use Prim.Native.Nat.{ℕ, ◌+◌, ◌-◌, ◌*◌, ◌≤◌, ◌<◌}
use mathlib.Core.Path.{◌≡◌, ap, ◌∙◌}
use native.Mathlib.Nat.{mul_assoc, mul_comm, mul-le-mul, mul-le-mul_left}
use native.Mathlib.Omega.{arith}
use lib.Dec.{ltb}
use lib.IntN.{ℤ, pos, ◌-ℤ◌}
use lib.Signed.{mag, lt_z, ◌≤ℤ◌}
use Rattle.margin.specs.Margin.{margin_of, Reached}
use Rattle.margin.proofs.Differences.{diff_pos, times_diff, diff_twice, diff_sign, diff_mag, diff_less}

-- for every k: what is braked less what is deducted and wanted
pub margin_split : (q k p t : ℕ) → margin_of q k p t ≡ pos (q * 100) -ℤ pos (q * k + 4 * (t * p))
unfolding margin_of
margin_split q k p t =
    ap (λ (z : ℤ). z -ℤ pos (4 * p * t)) (times_diff q 100 k)
    ∙ diff_twice (q * 100) (q * k) (4 * p * t)
    ∙ ap (λ (n : ℕ). pos (q * 100) -ℤ pos (q * k + n)) (mul_assoc 4 p t ∙ ap (λ (n : ℕ). 4 * n) (mul_comm p t))

-- for a k of at most 100: what is left of the braked mass less what is wanted
margin_left : (q k p t : ℕ) → k ≤ 100 → margin_of q k p t ≡ pos (q * (100 - k)) -ℤ pos (4 * p * t)
unfolding margin_of
margin_left q k p t h = rw (diff_pos 100 k h)

pub margin_sign : (q k p t : ℕ) → k ≤ 100 → lt_z (margin_of q k p t) (pos 0) ≡ ltb (q * (100 - k)) (4 * p * t)
margin_sign q k p t h = rw (margin_left q k p t h) (diff_sign (q * (100 - k)) (4 * p * t))

pub margin_mag : {q k p t : ℕ} → Reached q k p t → mag (margin_of q k p t) < 552000001
margin_mag {q} {k} {p} {t} f =
    let braked : q * (100 - k) ≤ 552000000 = mul-le-mul {m₂ = 100} f.braked (omega arith) in
    let wanted : 4 * p * t ≤ 404000000 = mul-le-mul {n₂ = 800} (omega arith) f.mass in
    rw (margin_left q k p t (omega arith), diff_mag) (omega arith)

-- where less is deducted the margin is no less
pub margin_kept : (q k k' p t : ℕ) → k' ≤ k → margin_of q k p t ≤ℤ margin_of q k' p t
margin_kept q k k' p t h =
    rw (margin_split q k p t, margin_split q k' p t) (diff_less (q * 100) (q * k' + 4 * (t * p)) (q * k + 4 * (t * p)) (omega (arith, mul-le-mul_left q h)))
