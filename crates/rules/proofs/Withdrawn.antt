-- Rule 46, which no list of vehicles reaches: the former list of rules held against today's. Assumes nothing.
use Prim.Native.Nat.{◌≤◌, ◌<◌}
use native.Mathlib.Omega.{arith}
use mathlib.Core.Path.{◌≡◌, refl, sym, ap, ◌∙◌}
use mathlib.Core.Bool.{Bool, true, false, not, ◌&&◌, cond, false≢true}
use mathlib.Core.List.{map}
use borrow.Author.Tests.{lt-ltb, lt-leb, ltb-true, leb-false}
use mathlib.Core.Logic.{◌⊎◌}
use lib.ListN.{take, drop}
use Rattle.lists.specs.Words.{◌above◌, ◌at_most◌}
use Rattle.lists.proofs.Lists.{both}
use Rattle.facts.specs.declared.Facts.{Facts}
use Rattle.order.specs.declared.Order.{Order}
use Rattle.categories.specs.Categories.{speed_of}
use Rattle.categories.specs.Brakes.{begun_of}
use Rattle.categories.specs.declared.category.Category.{Category}
use Rattle.rules.specs.Rules.{rule, Terms, first_broken, is_short, terms_of}
use Rattle.rules.specs.Books.{broken_by}
use Rattle.rules.specs.CrossBorder.{common_rules, cross_rules, cross_border}
use Rattle.rules.specs.Grants.{offer, offer_of, best_of, granted_of, six_of, decision_of}
use Rattle.rules.specs.Withdrawn.{rule46, stood, former_rules, former_book, longer_than_all, NotReached}
use Rattle.rules.proofs.Rules.{first_some, zero_none, one_less, put_in, first_has}

-- no part is longer than the whole
pub not_longer : (f : Facts) → f.hauledVLength ≤ f.hauledLength → longer_than_all f ≡ false
not_longer f h = go (f.hauledVLength above 7000) refl
  where
    go : (b : Bool) → f.hauledVLength above 7000 ≡ b → (b && f.hauledLength at_most 7000) ≡ false
    go true e = lt-leb f.hauledLength 7000 (omega (arith, h, ltb-true 7000 f.hauledVLength e))
    go false e = refl

-- its number is given to no rule of today
pub number_unused : (c : Category) (f : Facts) (o : Order) → broken_by cross_border c f o ≡ 46 → ⊥
unfolding broken_by cross_border
number_unused c f o = first_has (λ n. n ≡ 46 → ⊥) (cross_rules (terms_of c f o) f) (λ e. omega arith) (omega arith)

-- by the former list a category breaks first what it does today, or 46 where today it breaks 47 or none
pub former_or_46 : (c : Category) (f : Facts) (o : Order)
    → (broken_by former_book c f o ≡ broken_by cross_border c f o) ⊎ ((broken_by former_book c f o ≡ 46) × (broken_by cross_border c f o ≡ cond (is_short c f o) 47 0))
unfolding broken_by former_book cross_border terms_of
former_or_46 c f o = let t = terms_of c f o in put_in (take stood (cross_rules t f)) (drop stood (cross_rules t f)) (rule46 t f) (omega arith)

module _ (f : Facts) (elsewhere : longer_than_all f ≡ false) where
  -- more than 10 begun 20 m are more than 700 m, of a hauled part above 700 m
  breaks_22 : (t : Terms) → (rule46 t f).applies ≡ true → f.hauledLength above 7000 ≡ true
  breaks_22 t e = go (f.hauledLength at_most 7000) refl
    where
      set : f.hauledVLength above 7000 ≡ true
      set = lt-ltb 7000 f.hauledVLength (omega (arith, ltb-true _ (begun_of f.hauledVLength) (both (not t.isg) _ e).1))

      go : (b : Bool) → f.hauledLength at_most 7000 ≡ b → f.hauledLength above 7000 ≡ true
      go true h = absurd (false≢true (sym elsewhere ∙ rw (set, h)))
      go false h = lt-ltb 7000 f.hauledLength (leb-false f.hauledLength 7000 h)

  -- so 22 is broken, and with it one of 15 to 22
  some_before : (t : Terms) → (rule46 t f).applies ≡ true → first_broken (take 8 (common_rules f)) ≡ 0 → ⊥
  some_before t e z = false≢true (sym (zero_none (take 8 (common_rules f)) (omega arith) z).1.1.1.1.1.1.1.0 ∙ breaks_22 t e)

  module _ (c : Category) (o : Order) where
    -- no category's first rule is another by the former list
    pub broken_kept : broken_by former_book c f o ≡ broken_by cross_border c f o
    unfolding broken_by former_book cross_border
    broken_kept =
        let t = terms_of c f o in
        one_less (take stood (cross_rules t f)) (drop stood (cross_rules t f)) (rule46 t f)
        (λ e z. some_before t e (sym (first_some (take 8 (common_rules f)) (drop 8 (take stood (cross_rules t f))) (some_before t e)) ∙ z))

    first_before : (rule46 (terms_of c f o) f).applies ≡ true → (0 < broken_by former_book c f o) × (broken_by former_book c f o ≤ 22)
    unfolding broken_by former_book
    first_before e =
        let t = terms_of c f o in
        let some = some_before t e in
        let first = first_some (take 8 (common_rules f)) (drop 8 (former_rules t f)) some in
        let most = first_has (λ n. n ≤ 22) (take 8 (common_rules f)) (omega arith) (omega arith) in
        (omega (arith, first, some), omega (arith, first, most))

    pub not_reached : NotReached c f o
    unfolding former_book
    not_reached =
        record {
          broken = λ e. ap (rule 22) (breaks_22 (terms_of c f o) e);
          first = first_before;
          never = λ e. number_unused c f o (sym broken_kept ∙ e);
        }

  -- nor is what is granted, nor anything that is decided
  granted_kept : (o : Order) → granted_of former_book f o ≡ granted_of cross_border f o
  unfolding granted_of offer_of former_book
  granted_kept o = λ i. best_of o.asked (map (λ c. offer c.number (speed_of c f o) (broken_kept c o i)) cross_border.rows)

  pub decision_kept : (o : Order) → decision_of former_book f o ≡ decision_of cross_border f o
  unfolding decision_of offer_of former_book
  decision_kept o =
      λ i. record { offers = six_of (map (λ c. offer c.number (speed_of c f o) (broken_kept c o i)) cross_border.rows); granted = granted_kept o i }
