-- Laws of the word of all broken rules. Assumes nothing.
use Prim.Native.Nat.{ℕ, zero, suc, ◌+◌, ◌*◌, ◌^◌, ◌≤◌, ◌<◌, ◌%◌, ◌/◌}
use mathlib.Core.Path.{◌≡◌, refl, ap, ◌∙◌}
use mathlib.Core.Bool.{Bool, true, false, cond}
use mathlib.Core.List.{List, [], ◌∷◌}
use native.Mathlib.Omega.{arith}
use native.Mathlib.Nat.{pow-suc}
use Rattle.std.specs.Prelude.{reverse, bit_or}
use Rattle.std.specs.Int.{from_bool}
use Rattle.std.specs.List.{fold}
use Rattle.std.proofs.Math.Nat.{pow-le-pow_right}
use Rattle.std.proofs.lemmas.Grind.{or_after_shift}
use Rattle.std.proofs.lemmas.List.{reverse-append}
use Rattle.std.proofs.lemmas.List.Sums.{fold_push}
use lib.ListN.{length, get_or}
use lib.Count.{count_trailing_zeros}
use Rattle.rules.specs.Rules.{Rule, first_broken, numbers_of, marks_of}
use Rattle.domestic.specs.Words.{word_of}

pub word_lt : (bs : List Bool) → word_of bs < 2 ^ length bs
word_lt [] = omega arith
word_lt (true ∷ bs) = let h = word_lt bs in omega (arith, pow-suc 2 (length bs))
word_lt (false ∷ bs) = let h = word_lt bs in omega (arith, pow-suc 2 (length bs))

-- gone through from the last mark to the first, each word before doubled
pub folded_word : (bs : List Bool) → length bs ≤ 32 → fold (λ word mark. bit_or (word * 2 ^ 1 % 2 ^ 32) (from_bool mark)) 0 (reverse bs) ≡ word_of bs
folded_word [] h = refl
folded_word (b ∷ bs) h =
    let step : ℕ → Bool → ℕ = λ word mark. bit_or (word * 2 ^ 1 % 2 ^ 32) (from_bool mark) in
    let below : 2 ^ length bs ≤ 2 ^ 31 = pow-le-pow_right {n = 2} (omega arith) {i = length bs} {j = 31} (omega arith) in
    let within : word_of bs * 2 < 2 ^ 32 = omega (arith, word_lt bs, below) in
    ap (fold step 0) (reverse-append (b ∷ []) bs) ∙ fold_push step 0 (reverse bs) b ∙ ap (λ word. step word b) (folded_word bs (omega arith)) ∙ added b within
  where
    added : (b : Bool) → word_of bs * 2 < 2 ^ 32 → bit_or (word_of bs * 2 ^ 1 % 2 ^ 32) (from_bool b) ≡ cond b 1 0 + 2 * word_of bs
    added true k = or_after_shift (word_of bs) 2 (2 ^ 32) 1 refl (omega arith) k ∙ omega arith
    added false k = or_after_shift (word_of bs) 2 (2 ^ 32) 0 refl (omega arith) k ∙ omega arith

-- the number beside the first mark that is set, or 0
abbrev first_marked : List ℕ → List Bool → ℕ
first_marked [] marks = 0
first_marked (n ∷ ns) [] = 0
first_marked (n ∷ ns) (b ∷ bs) = cond b n (first_marked ns bs)

-- the trailing zeros of the mask are the place of the first
pub first_word : (k : ℕ) (ns : List ℕ) (bs : List Bool) → length ns ≡ length bs → length bs ≤ k → get_or ns (count_trailing_zeros k (word_of bs)) 0 ≡ first_marked ns bs
unfolding count_trailing_zeros
first_word k [] bs e h = refl
first_word k (n ∷ ns) [] e h = absurd (omega arith)
first_word zero (n ∷ ns) (b ∷ bs) e h = absurd (omega arith)
first_word (suc k) (n ∷ ns) (true ∷ bs) e h = let p : (1 + 2 * word_of bs) % 2 ≡ 1 = omega arith in rw p
first_word (suc k) (n ∷ ns) (false ∷ bs) e h =
    let p : (0 + 2 * word_of bs) % 2 ≡ 0 = omega arith in
    let q : (0 + 2 * word_of bs) / 2 ≡ word_of bs = omega arith in
    rw (p, q) (first_word k ns bs (omega arith) (omega arith))

-- the number beside the lowest bit is that of the first rule broken
marked_broken : (rules : List Rule) → first_marked (numbers_of rules) (marks_of rules) ≡ first_broken rules
marked_broken [] = refl
marked_broken (r ∷ rules) = ap (cond r.applies r.gives) (marked_broken rules)

same_length : (rules : List Rule) → length (numbers_of rules) ≡ length (marks_of rules)
same_length [] = refl
same_length (r ∷ rules) = ap suc (same_length rules)

pub lowest_first : (rules : List Rule) → length (marks_of rules) ≤ 32 → get_or (numbers_of rules) (count_trailing_zeros 32 (word_of (marks_of rules))) 0 ≡ first_broken rules
lowest_first rules h = first_word 32 (numbers_of rules) (marks_of rules) (same_length rules) h ∙ marked_broken rules

-- ---- a mark as a number
pub mark_is : (n : ℕ) (b : Bool) → n ≡ from_bool b → n ≡ cond b 1 0
mark_is n true e = e
mark_is n false e = e

pub mark_most : (n : ℕ) (b : Bool) → n ≡ from_bool b → n ≤ 1
mark_most n true e = omega arith
mark_most n false e = omega arith

-- ---- numbers that rise by one
abbrev pub rising_from : ℕ → ℕ → List ℕ
rising_from k zero = []
rising_from k (suc n) = k ∷ rising_from (suc k) n

pub rising_at : (k n i : ℕ) → i < n → k + i ≡ get_or (rising_from k n) i 0
rising_at k zero i h = absurd (omega arith)
rising_at k (suc n) zero h = omega arith
rising_at k (suc n) (suc i) h = let e : k + suc i ≡ suc k + i = omega arith in e ∙ rising_at (suc k) n i (omega arith)

pub rising_past : (k n i : ℕ) → n ≤ i → 0 ≡ get_or (rising_from k n) i 0
rising_past k zero i h = refl
rising_past k (suc n) zero h = absurd (omega arith)
rising_past k (suc n) (suc i) h = rising_past (suc k) n i (omega arith)
