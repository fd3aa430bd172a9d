-- What is offered on a route, section by section. Assumes nothing.
use Prim.Native.Nat.{ℕ}
use native.Mathlib.Omega.{arith}
use mathlib.Core.Path.{◌≡◌, refl, sym, ap, ap₂, ◌∙◌}
use mathlib.Core.List.{List, [], ◌∷◌, map, zip_with, foldr, reverse, reverse-append}
use Rattle.std.specs.Prelude.{Option}
use lib.ListN.{length}
use Rattle.std.specs.List.{fold, push}
use Rattle.std.proofs.lemmas.List.Sums.{fold-append}
use Rattle.record.specs.Records.{records_of}
use Rattle.facts.specs.declared.Facts.{Facts}
use Rattle.order.specs.declared.Book.{Book}
use Rattle.order.specs.declared.Book.TheVariants.{CrossBorder, Domestic}
use Rattle.order.specs.declared.Order.{Order}
use Rattle.order.specs.Orders.{order_read}
use Rattle.rules.specs.CrossBorder.{cross_border}
use Rattle.categories.specs.Categories.{category_of, rows_of}
use Rattle.rules.specs.Grants.{better_of, best_of, offer_of, decision_of}
use Rattle.rules.specs.declared.grant.Best.{Best}
use Rattle.rules.specs.declared.grant.Offer.{Offer}
use Rattle.rules.proofs.Demands.{absent_passed}
use Rattle.domestic.specs.Rules.{domestic}
use Rattle.books.specs.Books.{book_of}
use Rattle.sections.specs.Routes.{asked_on, slowest_of, broken_on, route_offer, granted_on}
use Rattle.sections.specs.Gathering.{offers_on, unbroken, in_front}
use Rattle.sections.specs.Sections.{sections_of}
use Rattle.sections.proofs.Places.{sections_read}

-- before any section a category breaks none and has its own speed; the cross-border book has no sixth
pub offers_start : (b : Book) (f : Facts) → map (λ n. unbroken (category_of n (rows_of b))) (1 ∷ 2 ∷ 3 ∷ 4 ∷ 5 ∷ 6 ∷ []) ≡ offers_on (book_of b) f []
unfolding offers_on route_offer book_of cross_border domestic broken_on slowest_of
offers_start CrossBorder f = refl
offers_start Domestic f = refl

-- a section in front of those further on
in_front_lem : (b : Book) (f : Facts) (o : Order) (os : List Order) → in_front (decision_of (book_of b) f o).offers (offers_on (book_of b) f os) ≡ offers_on (book_of b) f (o ∷ os)
unfolding in_front zip_with decision_of offer_of offers_on route_offer book_of cross_border domestic broken_on slowest_of
in_front_lem CrossBorder f o os = refl
in_front_lem Domestic f o os = refl

module _ (b : Book) (f : Facts) where
  -- the record of a section before those further on, as code reads it
  abbrev pub before : List Offer → List ℕ → List Offer
  before further r = in_front (decision_of (book_of b) f (order_read r)).offers further

  gathered_each : (rs : List (List ℕ)) → fold before (offers_on (book_of b) f []) (reverse rs) ≡ offers_on (book_of b) f (map order_read rs)
  gathered_each [] = refl
  gathered_each (r ∷ rs) =
      ap (fold before (offers_on (book_of b) f [])) (reverse-append (r ∷ []) rs)
      ∙ fold-append before (offers_on (book_of b) f []) (reverse rs) (r ∷ [])
      ∙ ap (λ (x : List Offer). before x r) (gathered_each rs)
      ∙ in_front_lem b f (order_read r) (map order_read rs)

  -- ---- from the last section to the first: what is left, before what is offered behind it
  abbrev pub with_rest : List Offer → List (List ℕ) → List Offer
  with_rest offers rest = fold before offers (reverse rest)

  pub all_left : (orders : List ℕ) (offers : List Offer) (rest : List (List ℕ)) → offers ≡ offers_on (book_of b) f [] → rest ≡ records_of orders
      → with_rest offers rest ≡ offers_on (book_of b) f (sections_of orders)
  all_left orders offers rest e h = ap₂ with_rest e h ∙ gathered_each (records_of orders) ∙ ap (offers_on (book_of b) f) (sections_read orders)

  pub one_less : (offers : List Offer) (rest front : List (List ℕ)) (r : List ℕ) → rest ≡ push front r → with_rest (before offers r) front ≡ with_rest offers rest
  one_less offers rest front r e = sym (ap (with_rest offers) e ∙ ap (fold before offers) (reverse-append front (r ∷ [])))

  pub none_left : (offers : List Offer) (rest : List (List ℕ)) → length rest ≡ 0 → offers ≡ with_rest offers rest
  none_left offers [] e = refl
  none_left offers (r ∷ rest) e = absurd (omega arith)

-- granted by what is offered; the cross-border book has no sixth
pub granted_by : (b : Book) (f : Facts) (os : List Order) → best_of (asked_on os) (offers_on (book_of b) f os) ≡ granted_on (book_of b) f os
unfolding book_of granted_on offers_on route_offer cross_border domestic
granted_by CrossBorder f os = ap (front f os) (absent_passed (asked_on os) 0 0 (best_of (asked_on os) []))
  where
    -- the five, in front of what is best behind them
    front : Facts → List Order → Option Best → Option Best
    front f os last = foldr (λ c rest. better_of (asked_on os) (route_offer cross_border f os c) rest) last cross_border.rows
granted_by Domestic f os = refl
