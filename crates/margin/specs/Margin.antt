-- Document 01, "Braked mass and margin" and bytes 10-12 of the sheet: the exact margin, its whole tonnes and their three bytes.
use Rattle.std.specs.Prelude.{ℕ, ◌+◌, ◌-◌, ◌*◌, ◌/◌, ◌%◌, ◌≤◌, cond, List, [], ◌∷◌, ltb, ℤ, pos, negsuc, ◌-ℤ◌, ◌*ℤ◌, get_or}
use Rattle.margin.specs.declared.Braked.{Braked}

-- Q, four times the braked mass before k
unfoldable pub fourfold : Braked → ℕ
fourfold b = 4 * b.set + 4 * b.whole + 3 * b.reduced

-- braked mass after deduction, in tenths rounded down
abbrev pub left_of : ℕ → ℕ → ℕ
left_of q k = q * (100 - k) / 400

-- "Q x (100 - k) - 4 x p x T", every operation over ℤ, so for every k
unfoldable pub margin_of : ℕ → ℕ → ℕ → ℕ → ℤ
margin_of q k p t = pos q *ℤ (pos 100 -ℤ pos k) -ℤ pos 4 *ℤ pos p *ℤ pos t

-- divided by n and rounded toward minus infinity; negsuc a is -(a + 1)
abbrev pub floor_div : ℤ → ℕ → ℤ
floor_div (pos a) n = pos (a / n)
floor_div (negsuc a) n = negsuc (a / n)

-- "It counts 4,000ths of a tonne"
abbrev pub tonnes_of : ℤ → ℤ
tonnes_of m = floor_div m 4000

-- two's complement in 24 bits, a number below 2 ^ 24
abbrev pub complement : ℤ → ℕ
complement (pos n) = n % 16777216
complement (negsuc n) = 16777215 - n % 16777216

-- the three bytes of a number below 2 ^ 24, the least first
abbrev pub three_bytes : ℕ → List ℕ
three_bytes u = u % 256 ∷ u / 256 % 256 ∷ u / 65536 % 256 ∷ []

abbrev pub bytes_of : ℤ → List ℕ
bytes_of z = three_bytes (complement z)

-- a number below 2 ^ 24 whose highest bit is the sign
abbrev pub signed24 : ℕ → ℤ
signed24 u = cond (ltb u 8388608) (pos u) (negsuc (16777215 - u))

-- the number that three bytes say
abbrev pub signed_of : List ℕ → ℤ
signed_of bs = signed24 (get_or bs 0 0 + 256 * get_or bs 1 0 + 65536 * get_or bs 2 0)

-- what an account within its ceilings and two engines can reach: Q is four times 1,005,000 and three times 500,000
pub record Reached (q k p t : ℕ) : Type 0 where
  pub braked : q ≤ 5520000
  pub deducted : k ≤ 10
  pub percentage : p ≤ 200
  pub mass : t ≤ 505000
