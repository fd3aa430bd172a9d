-- Document 01's cases A to D as far as the margin: Q, the exact margin, its whole tonnes and their bytes; and what is left after k.
use Rattle.std.specs.Prelude.{ℕ, List, [], ◌∷◌, ℤ, pos, neg_ℤ}
use Rattle.margin.specs.Margin.{fourfold, margin_of, left_of}
use Rattle.margin.specs.declared.Braked.{Braked}

-- masses set to V, others that count whole, and those that count for three quarters
abbrev braked : ℕ → ℕ → ℕ → Braked
braked v m r = record { set = v; whole = m; reduced = r }

abbrev pub masses : List ℕ
masses =
    -- four times V and the whole, three times the rest (note 8)
    fourfold (braked 6000 0 0)
    ∷ fourfold (braked 1000 100 10)
    -- tenths rounded down, 0, 1 and 10 percent deducted (note 7); all, were it 100 or more
    ∷ left_of 4430 0
    ∷ left_of 4430 1
    ∷ left_of 4430 10
    ∷ left_of 4430 100
    ∷ left_of 4430 101
    ∷ []

abbrev pub masses_given : List ℕ
masses_given = 24000 ∷ 4430 ∷ 1107 ∷ 1096 ∷ 996 ∷ 0 ∷ 0 ∷ []

-- cases A to D: a train of 690 t, 77 percent; then A with 2 percent deducted
abbrev pub margins : List ℤ
margins =
    margin_of (fourfold (braked 6000 0 0)) 0 77 6900
    ∷ margin_of (fourfold (braked 5300 0 0)) 0 77 6900
    ∷ margin_of (fourfold (braked 5311 0 0)) 0 77 6900
    ∷ margin_of (fourfold (braked 5313 0 0)) 0 77 6900
    ∷ margin_of (fourfold (braked 6000 0 0)) 2 77 6900
    ∷ []

abbrev pub margins_given : List ℤ
margins_given = pos 274800 ∷ neg_ℤ (pos 5200) ∷ neg_ℤ (pos 800) ∷ pos 0 ∷ pos 226800 ∷ []

abbrev pub tonnes : List ℤ
tonnes = pos 68 ∷ neg_ℤ (pos 2) ∷ neg_ℤ (pos 1) ∷ pos 0 ∷ pos 56 ∷ []

abbrev pub bytes : List (List ℕ)
bytes = (68 ∷ 0 ∷ 0 ∷ []) ∷ (254 ∷ 255 ∷ 255 ∷ []) ∷ (255 ∷ 255 ∷ 255 ∷ []) ∷ (0 ∷ 0 ∷ 0 ∷ []) ∷ (56 ∷ 0 ∷ 0 ∷ []) ∷ []
