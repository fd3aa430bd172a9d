-- Laws of the account as it travels. Assumes nothing.
use Prim.Native.Nat.{ℕ, ◌+◌, ◌*◌, ◌/◌, ◌%◌, ◌^◌, ◌≤◌, ◌<◌}
use mathlib.Core.Path.{◌≡◌, refl, sym, ap, ap₂, subst, ◌∙◌}
use mathlib.Core.Bool.{Bool, true, false, ◌&&◌, cond}
use mathlib.Core.List.{List, [], ◌∷◌, ◌++◌, append_assoc, map}
use native.Mathlib.Nat.{div-div-eq-div-mul}
use native.Mathlib.Omega.{arith}
use borrow.Author.Tests.{leb-true, leb-false, le-leb, lt-leb, eq-eqb, ne_eqb}
use lib.ListN.{length, take, drop}
use lib.Seq.{drop-drop, sets}
use borrow.Rule.Slice.PartMut.{put_mid}
use Rattle.std.specs.Int.{w32, to_le_bytes}
use Rattle.std.specs.List.{fold, list_all}
use Rattle.std.proofs.lemmas.List.Edits.{sets-eq}
use Rattle.lists.specs.Words.{◌is◌, ◌at_most◌, all, Every}
use Rattle.lists.specs.Numbers.{little_endian}
use Rattle.lists.proofs.Lists.{all_list}
use Rattle.account.specs.Ceilings.{within, Within}
use Rattle.account.specs.declared.Account.{Account}
use Rattle.account.proofs.Demands.{figure_at_lem}
use Rattle.travel.specs.AccountRecords.{size, marks_in, unused_in, account_in, is_plain, is_account, above_ceiling, offered, figure_bytes, mark, setting_byte, five, record_of}

-- ---- four bytes, as the library writes them
pub four_put : (l : List ℕ) (at n x : ℕ) (ys : List ℕ) → n ≡ 4 → at + 4 ≤ length l → x < 2 ^ 32 → ys ≡ to_le_bytes w32 x → put_mid at n l ys ≡ sets l at (figure_bytes x)
four_put l at n x ys e h fits same =
    let last : x / 16777216 % 256 ≡ x / 16777216 = omega arith in
    ap₂ (λ (n : ℕ) (ys : List ℕ). put_mid at n l ys) e (same ∙ ap (λ (b : ℕ). x % 256 ∷ x / 256 % 256 ∷ x / 65536 % 256 ∷ b ∷ []) last)
    ∙ ap (λ (rest : List ℕ). take at l ++ (figure_bytes x ++ rest)) (drop-drop 4 at l)
    ∙ sym (append_assoc (take at l) (figure_bytes x) (drop (at + 4) l))
    ∙ sym (sets-eq (figure_bytes x) l at h)

-- ---- what bytes offer, by the code's tests
-- every member is asked, though one before it was told no
pub all_folded : (p : ℕ → Bool) (xs : List ℕ) → fold (λ so_far x. so_far && p x) true xs ≡ list_all p xs
all_folded p = go true
  where
    go : (b : Bool) (xs : List ℕ) → fold (λ so_far x. so_far && p x) b xs ≡ (b && list_all p xs)
    go true [] = refl
    go false [] = refl
    go true (x ∷ xs) = go (p x) xs
    go false (x ∷ xs) = go false xs

module _ (bs : List ℕ) where
  pub plain_short : (length bs ≡ size → ⊥) → false ≡ is_plain bs
  unfolding is_plain
  plain_short h = rw (ne_eqb (length bs) size h)

  pub plain_long : length bs ≡ size → (list_all (λ m. m at_most 1) (marks_in bs) && list_all (λ u. u is 0) (unused_in bs)) ≡ is_plain bs
  unfolding is_plain
  plain_long h = rw (eq-eqb (length bs) size h) (ap₂ ◌&&◌ (all_list (λ m. m at_most 1) (marks_in bs)) (all_list (λ u. u is 0) (unused_in bs)))

  pub offered_by_test : (b : Bool) → is_plain bs ≡ b → account_in (cond b bs above_ceiling) ≡ offered bs
  unfolding offered
  offered_by_test b e = rw e

  pub offered_plain : (ys : List ℕ) → ys ≡ bs → is_plain ys ≡ true → account_in ys ≡ offered bs
  offered_plain ys e t = ap account_in e ∙ offered_by_test true (ap is_plain (sym e) ∙ t)

-- ---- reading what was written
-- 7 is for what is no account
pub offered_within : (bs : List ℕ) → within (offered bs) ≡ is_account bs
unfolding offered within account_in little_endian all
offered_within bs = go (is_plain bs)
  where
    go : (b : Bool) → within (account_in (cond b bs above_ceiling)) ≡ (b && within (account_in bs))
    go true = refl
    go false = refl

parted : (x y : ℕ) → x / 256 ≡ y → x ≡ x % 256 + 256 * y
parted x y e = omega arith

weighed : (x y z t a b c : ℕ) → x ≡ a + 256 * y → y ≡ b + 256 * z → z ≡ c + 256 * t → a + 256 * (b + 256 * (c + 256 * (t + 256 * 0))) ≡ x
weighed x y z t a b c = omega arith

four_back : (x : ℕ) → little_endian (figure_bytes x) ≡ x
unfolding little_endian
four_back x =
    weighed x (x / 256) (x / 65536) (x / 16777216) _ _ _ (parted x (x / 256) refl) (parted (x / 256) (x / 65536) (div-div-eq-div-mul x 256 256))
    (parted (x / 65536) (x / 16777216) (div-div-eq-div-mul x 65536 256))

mark_back : (holds : Bool) → (mark holds is 1) ≡ holds
mark_back true = refl
mark_back false = refl

mark_fits : (holds : Bool) → (mark holds at_most 1) ≡ true
mark_fits true = refl
mark_fits false = refl

-- above 4 stays above 4
setting_test : (s : ℕ) → (setting_byte s at_most 4) ≡ (s at_most 4)
setting_test s = go (s at_most 4) refl
  where
    go : (b : Bool) → (s at_most 4) ≡ b → (setting_byte s at_most 4) ≡ b
    go true e = le-leb (setting_byte s) 4 (omega (arith, leb-true s 4 e))
    go false e = lt-leb (setting_byte s) 4 (omega (arith, leb-false s 4 e))

five_members : (l : List ℕ) → length l ≡ 5 → five l ≡ l
five_members [] h = absurd (omega arith)
five_members (a ∷ []) h = absurd (omega arith)
five_members (a ∷ b ∷ []) h = absurd (omega arith)
five_members (a ∷ b ∷ c ∷ []) h = absurd (omega arith)
five_members (a ∷ b ∷ c ∷ d ∷ []) h = absurd (omega arith)
five_members (a ∷ b ∷ c ∷ d ∷ e ∷ []) h = refl
five_members (a ∷ b ∷ c ∷ d ∷ e ∷ f ∷ l) h = absurd (omega arith)

settings_back : (l : List ℕ) → Every (λ s. s ≤ 255) l → map setting_byte l ≡ l
settings_back [] k = refl
settings_back (s ∷ l) k =
    let kept : setting_byte s ≡ s = omega (arith, k.0) in
    λ i. kept i ∷ settings_back l k.1 i

module _ (a : Account) where
  record_plain : is_plain (record_of a) ≡ true
  unfolding is_plain all
  record_plain = λ i. (mark_fits a.behind i && (mark_fits a.rule16 i && (mark_fits a.rule17 i && (mark_fits a.rule18 i && (mark_fits a.enginenotm i && true))))) && true

  record_offered : offered (record_of a) ≡ account_in (record_of a)
  record_offered = sym (offered_by_test (record_of a) true record_plain)

  pub record_back : length a.first ≡ 5 → Every (λ s. s ≤ 255) a.first → offered (record_of a) ≡ a
  unfolding account_in
  record_back h k =
      let first = ap (map setting_byte) (five_members a.first h) ∙ settings_back a.first k in
      record_offered
      ∙ (λ i.
      record {
        count = four_back a.count i;
        mass = four_back a.mass i;
        vmass = four_back a.vmass i;
        mmass = four_back a.mmass i;
        length = four_back a.length i;
        axles = four_back a.axles i;
        vaxles = four_back a.vaxles i;
        engines = four_back a.engines i;
        mset = four_back a.mset i;
        isolated = four_back a.isolated i;
        dloads = four_back a.dloads i;
        leading = four_back a.leading i;
        trailing = four_back a.trailing i;
        longest = four_back a.longest i;
        behind = mark_back a.behind i;
        rule16 = mark_back a.rule16 i;
        rule17 = mark_back a.rule17 i;
        rule18 = mark_back a.rule18 i;
        slowest = four_back a.slowest i;
        first = first i;
        vlength = four_back a.vlength i;
        enginemmass = four_back a.enginemmass i;
        wagonvmass = four_back a.wagonvmass i;
        enginenotm = mark_back a.enginenotm i;
      })

  pub record_within : within (offered (record_of a)) ≡ within a
  unfolding within all account_in
  record_within = ap within record_offered ∙ simp (four_back, setting_test)

  pub within_small : length a.first ≡ 5 → Within a → Every (λ s. s ≤ 255) a.first
  within_small h w =
      let f = figure_at_lem a w in
      let small : Every (λ s. s ≤ 255) (five a.first) =
      (omega (arith, f 15), (omega (arith, f 16), (omega (arith, f 17), (omega (arith, f 18), (omega (arith, f 19), tt))))) in
      subst (Every (λ s. s ≤ 255)) (five_members a.first h) small
