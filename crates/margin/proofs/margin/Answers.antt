-- `margin::margin` meets its contract: no product is near 2 ^ 63, so the difference is read back as it is.
use Rattle.std.proofs.Common.{◌≡◌, ℕ, ◌<◌, ◌≤◌, ◌+◌, ◌*◌, ◌^◌, pos, sym, ◌∙◌, arith, w64, of_z, to_z}
use Rattle.std.specs.Prelude.{◌-ℤ◌}
use Rattle.std.proofs.lemmas.Int.{to_z-of_z, to_z_pos}
use native.Mathlib.Nat.{mul-le-mul}
use Rattle.margin.specs.Margin.{fourfold}
use Rattle.margin.proofs.Differences.{diff_mag}
use Rattle.margin.proofs.Margins.{margin_split}
use Rattle.margin.proofs.margin.Goals as goal

-- two numbers below 2 ^ 62 are read as they are, and so is what one is above the other
read_back : (a b : ℕ) → a < 2 ^ 62 → b < 2 ^ 62 → to_z w64 (of_z w64 (to_z w64 a -ℤ to_z w64 b)) ≡ pos a -ℤ pos b
read_back a b h k =
    rw (to_z_pos w64 a (omega arith), to_z_pos w64 b (omega arith))
    (to_z-of_z w64 (pos a -ℤ pos b) (record { sfits = rw diff_mag (omega arith) }))

-- what is deducted and wanted is
small : (q k t p : ℕ) → q ≤ 47244640245 → k ≤ 255 → t ≤ 4294967295 → p ≤ 255 → q * k + 4 * (t * p) < 2 ^ 62
small q k t p a b c d = omega (arith, mul-le-mul a b, mul-le-mul c d)

pub returns : goal.returns
returns c =
    let q = c.fourfold-q.result in
    read_back (q * 100) (q * c.from.result + 4 * (c.from-2.result * c.from-3.result)) (omega arith)
    (small q c.from.result c.from-2.result c.from-3.result c.fourfold-q.ensures.1 (omega arith) (omega arith) (omega arith))
    ∙ rw (c.from.ensures, c.from-2.ensures, c.from-3.ensures, c.fourfold-q.ensures.0) (sym (margin_split (fourfold c.args.b) c.args.k c.args.p c.args.t))
