-- Laws of a text in a line, of digits and of hex. Assumes nothing.
use Rattle.std.proofs.Common.{ℕ, zero, suc, ◌+◌, ◌*◌, ◌/◌, ◌%◌, ◌^◌, ◌≤◌, ◌<◌, max, ◌≡◌, refl, sym, ap, ◌∙◌, Bool, true, false, cond, List, [], ◌∷◌, ◌++◌, length, get_or, take, drop, ltb, arith, add-one, length-take, length-append, append_assoc}
use Rattle.std.specs.Prelude.{decimal as printed}
use Rattle.std.proofs.lemmas.Fmt.{decimal_digit, decimal_step}
use native.Mathlib.Nat.{not-suc-le-zero}
use borrow.Author.Tests.{lt-ltb, ltb-true, ltb-false}
use lib.Seq.{take-suc, take_at}
use Rattle.bench.specs.Texts.{glyph_of, digits, decimal, field, hex, bytes_text, last_field}

-- ---- digits
-- the least number with more digits
abbrev tens : ℕ → ℕ
tens zero = 1
tens (suc most) = 10 * tens most

-- as std prints a number of 64 bits
digits_printed : (most n : ℕ) → n < tens most → 0 < most → n < 2 ^ 64 → digits most n ≡ printed n
unfolding glyph_of
digits_printed zero n h p w = absurd (not-suc-le-zero p)
digits_printed (suc most) n h p w = go (ltb n 10) refl (λ q b. digits_printed most (n / 10) b q (omega (arith, w)))
  where
    some : (k : ℕ) → k ≡ most → 10 ≤ n → 0 < most
    some zero e t = absurd (omega (arith, h, ap tens e))
    some (suc k) e t = omega arith

    go : (b : Bool) → ltb n 10 ≡ b → (0 < most → n / 10 < tens most → digits most (n / 10) ≡ printed (n / 10)) → digits (suc most) n ≡ printed n
    go true e before = rw e (sym (decimal_digit n (ltb-true n 10 e)))
    go false e before =
        let t = ltb-false n 10 e in
        let d : n % 10 < 10 = omega arith in
        let r = before (some most refl t) (omega (arith, h)) in
        rw (e, lt-ltb (n % 10) 10 d) (ap (λ (ds : List ℕ). ds ++ ((48 + n % 10) ∷ [])) r ∙ sym (decimal_step n t w))

pub field_printed : (n : ℕ) → n < 2 ^ 64 → printed n ++ (32 ∷ []) ≡ field n
unfolding decimal
field_printed n w = ap (λ (ds : List ℕ). ds ++ (32 ∷ [])) (sym (digits_printed 20 n (omega (arith, w)) (omega arith) w))

pub digits_length : (most n : ℕ) → length (digits most n) ≤ most
digits_length zero n = omega arith
digits_length (suc most) n = go (ltb n 10) (digits_length most (n / 10))
  where
    go : (b : Bool) → length (digits most (n / 10)) ≤ most → length (cond b (glyph_of n ∷ []) (digits most (n / 10) ++ (glyph_of (n % 10) ∷ []))) ≤ suc most
    go true h = omega arith
    go false h = omega (arith, length-append (digits most (n / 10)) (glyph_of (n % 10) ∷ []))

-- ---- hex
pub hex_append : (xs ys : List ℕ) → hex (xs ++ ys) ≡ hex xs ++ hex ys
hex_append [] ys = refl
hex_append (x ∷ xs) ys = ap (λ (r : List ℕ). glyph_of (x / 16) ∷ glyph_of (x % 16) ∷ r) (hex_append xs ys)

pub hex_length : (xs : List ℕ) → length (hex xs) ≡ 2 * length xs
hex_length [] = refl
hex_length (x ∷ xs) = omega (arith, hex_length xs)

-- one byte more
pub hex_more : (bs : List ℕ) (i : ℕ) → i < length bs → hex (take (i + 1) bs) ≡ hex (take i bs) ++ (glyph_of (get_or bs i 0 / 16) ∷ glyph_of (get_or bs i 0 % 16) ∷ [])
hex_more bs i h = rw (add-one, take-suc bs i 0 h) (hex_append (take i bs) (get_or bs i 0 ∷ []))

-- ---- a text behind what stands, and another behind that
pub text_behind : (l a b : List ℕ) {m k t : List ℕ} → m ≡ l ++ a → k ≡ m ++ b → a ++ b ≡ t → k ≡ l ++ t
text_behind l a b e f g = f ∙ ap (λ (r : List ℕ). r ++ b) e ∙ append_assoc l a b ∙ ap (λ (r : List ℕ). l ++ r) g

-- and of a line that was empty
pub text_begun : (a b : List ℕ) {l m k t : List ℕ} → l ≡ [] → m ≡ l ++ a → k ≡ m ++ b → a ++ b ≡ t → k ≡ t
text_begun a b z e f g = f ∙ ap (λ (r : List ℕ). r ++ b) (e ∙ ap (λ (r : List ℕ). r ++ a) z) ∙ g

pub length_behind : (l a : List ℕ) {m : List ℕ} → m ≡ l ++ a → length m ≡ length l + length a
length_behind l a e = ap length e ∙ length-append l a

pub hex_behind : (l bs : List ℕ) (i : ℕ) {m : List ℕ} → i ≤ length bs → m ≡ l ++ hex (take i bs) → length m ≡ length l + 2 * i
hex_behind l bs i h e = omega (arith, length_behind l (hex (take i bs)) e, hex_length (take i bs), length-take i bs)

pub hex_put : (l bs : List ℕ) (i x y : ℕ) {m k : List ℕ} → i < length bs → m ≡ l ++ hex (take i bs) → k ≡ m ++ (x ∷ y ∷ []) → x ≡ glyph_of (get_or bs i 0 / 16) → y ≡ glyph_of (get_or bs i 0 % 16)
    → k ≡ l ++ hex (take (i + 1) bs)
hex_put l bs i x y h e f p q = text_behind l (hex (take i bs)) (x ∷ y ∷ []) e f (rw (p, q) (sym (hex_more bs i h)))

pub front_long : (l : List ℕ) (n : ℕ) {m : ℕ} {r : List ℕ} → m ≡ length l → r ≡ take n l → length r ≤ m
front_long l n {m} {r} h e =
    let k : length r ≡ length (take n l) = ap length e in
    omega (arith, k, length-take n l)

-- ---- bytes written over blank ones, where it is done
pub last_shown : (done : Bool) (bytes blank : List ℕ) (n : ℕ) → (done ≡ true → length bytes ≡ n) → last_field done (take n (cond done (bytes ++ drop (length bytes) blank) blank)) ≡ last_field done bytes
unfolding last_field
last_shown true bytes blank n e = ap (λ (r : List ℕ). hex r ++ (10 ∷ [])) (take_at bytes (drop (length bytes) blank) n (e refl))
last_shown false bytes blank n e = refl

-- ---- the longest texts
pub field_length : (n : ℕ) → length (field n) ≤ 21
unfolding decimal
field_length n = omega (arith, digits_length 20 n, length-append (digits 20 n) (32 ∷ []))

pub bytes_length : (done : Bool) (bytes : List ℕ) → length (bytes_text done bytes) ≤ max 1 (2 * length bytes)
bytes_length true bytes = omega (arith, hex_length bytes)
bytes_length false bytes = omega arith

pub last_length : (done : Bool) (bytes : List ℕ) → length (last_field done bytes) ≤ 1 + max 1 (2 * length bytes)
unfolding last_field
last_length done bytes = omega (arith, bytes_length done bytes, length-append (bytes_text done bytes) (10 ∷ []))
