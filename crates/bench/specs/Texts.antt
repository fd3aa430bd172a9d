-- Numbers in decimal and bytes in lower-case hex, as ASCII.
use Rattle.std.specs.Prelude.{ℕ, zero, suc, ◌+◌, ◌/◌, ◌%◌, Bool, cond, List, [], ◌∷◌, ◌++◌, ltb}

-- 0 to 9, then a to f
unfoldable pub glyph_of : ℕ → ℕ
glyph_of d = cond (ltb d 10) (48 + d) (87 + d)

-- the digits of a number that has at most so many, the first not 0 save for the number 0
abbrev pub digits : ℕ → ℕ → List ℕ
digits zero n = []
digits (suc most) n = cond (ltb n 10) (glyph_of n ∷ []) (digits most (n / 10) ++ (glyph_of (n % 10) ∷ []))

-- a number of 64 bits has at most 20 digits
unfoldable pub decimal : ℕ → List ℕ
decimal n = digits 20 n

-- a number and one space
abbrev pub field : ℕ → List ℕ
field n = decimal n ++ (32 ∷ [])

-- each byte in two digits, the greater first
abbrev pub hex : List ℕ → List ℕ
hex [] = []
hex (b ∷ bs) = glyph_of (b / 16) ∷ glyph_of (b % 16) ∷ hex bs

-- bytes in hex, or "-" if refused
abbrev pub bytes_text : Bool → List ℕ → List ℕ
bytes_text done bytes = cond done (hex bytes) (45 ∷ [])

-- the last field of a line, and the line feed that closes it
unfoldable pub last_field : Bool → List ℕ → List ℕ
last_field done bytes = bytes_text done bytes ++ (10 ∷ [])
