-- What stands in the sheet that is written. Assumes nothing.
use Prim.Native.Nat.{ℕ, ◌≤◌, ◌<◌}
use mathlib.Core.Path.{◌≡◌, refl, sym, ap, ◌∙◌, subst}
use mathlib.Core.List.{List, [], ◌∷◌, ◌++◌, map}
use mathlib.Core.Logic.{inl, inr}
use lib.IntN.{pos}
use lib.ListN.{length, get_or, take, drop}
use lib.Signed.{lt_z}
use Rattle.std.specs.Prelude.{Result, Ok, ⊤}
use Rattle.lists.specs.Words.{Every}
use Rattle.margin.specs.Margin.{signed_of}
use Rattle.order.specs.declared.Book.{Book}
use Rattle.order.specs.declared.Book.TheVariants.{CrossBorder, Domestic}
use Rattle.order.specs.declared.Order.{Order}
use Rattle.facts.specs.Facts.{Bounded}
use Rattle.facts.specs.declared.Facts.{Facts}
use Rattle.categories.specs.Categories.{speed_of}
use Rattle.categories.specs.declared.category.Category.{Category}
use Rattle.rules.specs.CrossBorder.{cross_border}
use Rattle.rules.specs.Rules.{first_broken}
use Rattle.rules.specs.Books.{rules_of, broken_by}
use Rattle.rules.specs.Grants.{granted_of, granted_number, granted_speed, decision_of, Among, Offered}
use Rattle.rules.proofs.Demands as rules
use Rattle.domestic.specs.Rules.{domestic}
use Rattle.books.specs.Books.{book_of}
use Rattle.books.proofs.Demands.{book_sound}
use Rattle.sheets.specs.Sheets.{margin_at, asked_of, figures_of, sheet_of}
use Rattle.sheets.proofs.Demands.{braked_most, margin_read_back, margin_true_sign}
use Rattle.judge.specs.Answers.{sheet_for, written}
use Rattle.judge.specs.Shown.{byte_of, Shows}
use Rattle.judge.specs.declared.Refusal.{Refusal}

-- the sheet, and whatever stands behind it, by the book
module _ (f : Facts) (o : Order) (rest : List ℕ) where
  abbrev ByBook : Book → Type 0
  ByBook b =
      (get_or (sheet_of (book_of b) f o ++ rest) 3 0 ≡ first_broken ((book_of b).common f))
      × (take (length (book_of b).rows) (drop 4 (sheet_of (book_of b) f o ++ rest)) ≡ map (λ c. first_broken (rules_of (book_of b) c f o)) (book_of b).rows)
      × (get_or (sheet_of (book_of b) f o ++ rest) 1 0 ≡ granted_number (granted_of (book_of b) f o))
      × (get_or (sheet_of (book_of b) f o ++ rest) 2 0 ≡ granted_speed (granted_of (book_of b) f o))
      × (take 3 (drop (margin_at b) (sheet_of (book_of b) f o ++ rest)) ≡ take 3 (drop (margin_at b) (sheet_of (book_of b) f o)))

  by_book : (b : Book) → ByBook b
  unfolding sheet_of figures_of decision_of book_of cross_border domestic broken_by
  by_book CrossBorder = (refl, refl, refl, refl, refl)
  by_book Domestic = (refl, refl, refl, refl, refl)

  -- each category's byte is what it breaks: so of each row, and of any category that is one of them
  abbrev Byte : Book → Category → Type 0
  Byte b c = byte_of c (sheet_of (book_of b) f o ++ rest) ≡ broken_by (book_of b) c f o

  each_byte : (b : Book) → Every (Byte b) (book_of b).rows
  unfolding sheet_of figures_of decision_of book_of cross_border domestic
  each_byte CrossBorder = (refl, (refl, (refl, (refl, (refl, tt)))))
  each_byte Domestic = (refl, (refl, (refl, (refl, (refl, (refl, tt))))))

  among_every : (P : Category → Type 0) (rows : List Category) → Every P rows → (c : Category) → Among c rows → P c
  among_every P [] e c x' = elim x' [ ]
  among_every P (x ∷ rows) e c (inl q) = subst P (sym q) e.0
  among_every P (x ∷ rows) e c (inr a) = among_every P rows e.1 c a

  shows_over : Bounded f → o.german ≤ 200 → Shows f o (sheet_for f o ++ rest)
  unfolding sheet_for
  shows_over b g =
      let book = book_of o.book in
      let sound = book_sound o.book in
      let x = by_book o.book in
      let byte = among_every (Byte o.book) book.rows (each_byte o.book) in
      let braked = braked_most (asked_of book o).weigh f b in
      let margin = ap signed_of x.4 ∙ margin_read_back f o o.book braked b.mass g in
      record {
        common = x.0;
        rules = x.1;
        zero = λ c a z. (rules.zero_exactly book f o sound c).0 (sym (byte c a) ∙ z);
        unbroken = λ c a n. byte c a ∙ (rules.zero_exactly book f o sound c).1 n;
        granted = x.2;
        speed = x.3;
        none = λ z c a asked u. rules.none_granted book f o sound (sym x.2 ∙ z) c a (record { asked = asked; unbroken = sym (byte c a) ∙ u });
        broken = λ h. x.2 ∙ rules.all_broken book f o sound (λ c a m. h c a m.asked (byte c a ∙ m.unbroken));
        no_speed = λ z. x.3 ∙ rules.no_speed_lem book f o sound (sym x.2 ∙ z);
        stands = λ p. subst (λ (n : ℕ). Offered book f o n (get_or (sheet_of book f o ++ rest) 2 0)) (sym x.2) (subst (Offered book f o (granted_number (granted_of book f o))) (sym x.3) (rules.granted_stands book f o sound (subst (λ (n : ℕ). 0 < n) x.2 p)));
        fastest = λ c a m. subst (λ (s : ℕ). speed_of c f o ≤ s) (sym x.3) (rules.granted_is_fastest book f o sound c a m);
        lowest = λ c a m e. subst (λ (n : ℕ). n ≤ c.number) (sym x.2) (rules.lowest_at_a_tie book f o sound c a m (e ∙ x.3));
        margin = margin;
        sign = ap (λ (bs : List ℕ). lt_z (signed_of bs) (pos 0)) x.4 ∙ margin_true_sign f o o.book braked b.mass g;
      }

-- of a call that is done
pub shows_done : (answer : Result ⊤ Refusal) (f : Facts) (o : Order) (sheet : List ℕ) → answer ≡ Ok tt → Bounded f × (o.german ≤ 200) → Shows f o (written answer (sheet_for f o) sheet)
shows_done answer f o sheet e b =
    subst (λ (a : Result ⊤ Refusal). Shows f o (written a (sheet_for f o) sheet)) (sym e) (shows_over f o (drop (length (sheet_for f o)) sheet) b.0 b.1)
