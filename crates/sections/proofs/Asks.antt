-- What the sections ask for and by which book, and which of them is the first that is not good. Assumes nothing.
use Prim.Native.Nat.{ℕ}
use mathlib.Core.Path.{◌≡◌, refl, sym, ap, ap₂, ◌∙◌}
use mathlib.Core.Bool.{Bool, true, false, ◌&&◌, cond, and-true, true≢false}
use mathlib.Core.List.{List, [], ◌∷◌, map}
use borrow.Author.Tests.{eq-eqb, eqb-true}
use lib.ListN.{get_or}
use Rattle.lists.specs.Words.{◌is◌, all, Every}
use Rattle.lists.proofs.Lists.{both}
use Rattle.record.specs.Ranges.{in_ranges}
use Rattle.order.specs.Orders.{value_at, cross_border_fields, domestic_fields, fields_of, good_order, order_of}
use Rattle.order.proofs.Demands.{domestic_no_cross}
use Rattle.order.specs.declared.Book.{Book}
use Rattle.order.specs.declared.Book.TheVariants.{CrossBorder, Domestic}
use Rattle.sections.specs.Routes.{asked_on, book_on}
use Rattle.sections.specs.Sections.{same_book, good_section}

same_itself : (b : Book) → same_book b b ≡ true
same_itself CrossBorder = refl
same_itself Domestic = refl

same_alike : (a b : Book) → same_book a b ≡ true → a ≡ b
same_alike CrossBorder CrossBorder e = refl
same_alike CrossBorder Domestic e = absurd (true≢false (sym e))
same_alike Domestic CrossBorder e = absurd (true≢false (sym e))
same_alike Domestic Domestic e = refl

-- the first section asks for what the first section asks for, by the book that it names
pub first_itself : (rs : List (List ℕ)) → good_section (asked_on (map order_of rs)) (book_on (map order_of rs)) (get_or rs 0 []) ≡ good_order (get_or rs 0 [])
unfolding good_section good_order
first_itself [] = refl
first_itself (r ∷ rs) =
    ap₂ (λ (s t : Bool). good_order r && s && t) (eq-eqb (order_of r).asked (order_of r).asked refl) (same_itself (order_of r).book)
    ∙ and-true (good_order r && true)
    ∙ and-true (good_order r)

module _ (asked : ℕ) (book : Book) where
  -- the two of a good section
  good_asks : (r : List ℕ) → good_section asked book r ≡ true → ((order_of r).asked ≡ asked) × ((order_of r).book ≡ book)
  unfolding good_section
  good_asks r e =
      let t = both (good_order r && (order_of r).asked is asked) (same_book (order_of r).book book) e in
      (eqb-true (order_of r).asked asked (both (good_order r) ((order_of r).asked is asked) t.0).1, same_alike (order_of r).book book t.1)

  pub good_alike : (rs : List (List ℕ)) → all (good_section asked book) rs ≡ true → Every (λ o. (o.asked ≡ asked) × (o.book ≡ book)) (map order_of rs)
  unfolding all
  good_alike [] e = tt
  good_alike (r ∷ rs) e =
      let t = both (good_section asked book r) (all (good_section asked book) rs) e in
      (good_asks r t.0, good_alike rs t.1)

-- on a route of the cross-border book a section is good by its table and the asked category alone, for the other book's orders fail that table
pub cross_kept : (asked : ℕ) (r : List ℕ) → good_section asked CrossBorder r ≡ (in_ranges cross_border_fields r && (order_of r).asked is asked)
unfolding good_section good_order order_of
cross_kept asked r = go (value_at 7 1 r is 1) refl
  where
    alike : Bool
    alike = value_at 5 1 r is asked

    none : (x : Bool) → (x && false) ≡ false
    none true = refl
    none false = refl

    go : (b : Bool) → (value_at 7 1 r is 1) ≡ b
        → (in_ranges (fields_of (cond b Domestic CrossBorder)) r && alike && same_book (cond b Domestic CrossBorder) CrossBorder) ≡ (in_ranges cross_border_fields r && alike)
    go true e = none (in_ranges domestic_fields r && alike) ∙ sym (ap (λ (x : Bool). x && alike) (domestic_no_cross r (eqb-true (value_at 7 1 r) 1 e)))
    go false e = and-true (in_ranges cross_border_fields r && alike)
