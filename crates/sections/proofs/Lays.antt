-- Bytes laid over those lent, one after the other, and the speeds of a route as such bytes. Assumes nothing.
use Prim.Native.Nat.{ℕ, suc, ◌+◌, ◌≤◌, ◌<◌, min}
use native.Mathlib.Numerals.{add-one}
use native.Mathlib.Decide.{dec_le}
use native.Mathlib.Omega.{arith}
use mathlib.Core.Path.{◌≡◌, sym, ap, ap₂, ◌∙◌}
use mathlib.Core.List.{List, [], ◌∷◌, ◌++◌}
use lib.ListN.{length, get_or, take, drop, set, drop_of_length-le, length-map, get_or-map}
use Rattle.std.proofs.Common.{get_or-take}
use lib.Seq.{take_all, take-suc, drop-cons, length-take-le, set_at, append_snoc}
use Rattle.record.specs.Records.{record_count, records_of}
use Rattle.facts.specs.declared.Facts.{Facts}
use Rattle.order.specs.declared.Book.{Book}
use Rattle.order.specs.declared.Order.{Order}
use Rattle.order.specs.Orders.{order_read}
use Rattle.categories.specs.Categories.{speed_of, category_of, rows_of}
use Rattle.categories.specs.declared.category.Category.{Category}
use Rattle.books.specs.Books.{book_of}
use Rattle.books.proofs.Demands.{book_rows}
use Rattle.sections.specs.Routes.{section_speed, speeds_on}
use Rattle.sections.specs.Sections.{sections_of, laid_over}
use Rattle.sections.proofs.Places.{length_sections, section_at}

module _ (bytes lent : List ℕ) where
  -- the first i are laid
  abbrev pub laid_to : ℕ → List ℕ
  laid_to i = take i bytes ++ drop i lent

  pub laid_more : (i d x : ℕ) → i < length bytes → i < length lent → x ≡ get_or bytes i d → set (laid_to i) i x ≡ laid_to (i + 1)
  laid_more i d x b l e =
      let rest = drop (suc i) lent in
      ap (λ (r : List ℕ). set (take i bytes ++ r) i x) (drop-cons lent i 0 l)
      ∙ set_at (take i bytes) (get_or lent i 0) rest x i (length-take-le i bytes (omega arith))
      ∙ sym (append_snoc (take i bytes) x rest)
      ∙ ap (λ (y : ℕ). take i bytes ++ (y ∷ []) ++ rest) e
      ∙ ap (λ (r : List ℕ). r ++ rest) (sym (take-suc bytes i d b))
      ∙ ap laid_to (sym (add-one i))

  -- all of them, or as many as there is room for
  pub laid_whole : (n : ℕ) → n ≡ min (length bytes) (length lent) → laid_to n ≡ laid_over bytes lent
  unfolding laid_over
  laid_whole n e = go (dec_le (length bytes) (length lent))
    where
      go : Dec (length bytes ≤ length lent) → laid_to n ≡ take (length lent) bytes ++ drop (length bytes) lent
      go (yes h) =
          let m : n ≡ length bytes = omega arith in
          ap₂ (λ (x y : List ℕ). x ++ y) (take_all n bytes (omega arith) ∙ sym (take_all (length lent) bytes h)) (ap (λ (k : ℕ). drop k lent) m)
      go (no h) =
          let m : n ≡ length lent = omega arith in
          let d : length lent ≤ n = omega arith in
          let t : length lent ≤ length bytes = omega arith in
          ap₂ (λ (x y : List ℕ). x ++ y) (ap (λ (k : ℕ). take k bytes) m) (drop_of_length-le lent d ∙ sym (drop_of_length-le lent t))

-- ---- the speeds of a route, in the category of the number n
module _ (b : Book) (n : ℕ) (f : Facts) (orders : List ℕ) where
  pub length_speeds : length (speeds_on (book_of b) n f (sections_of orders)) ≡ record_count orders
  length_speeds = length-map (sections_of orders) (section_speed (book_of b) n f) ∙ length_sections orders

  -- what stands at i, as code works it out of the sections that it cuts off
  module _ (i m : ℕ) (within : i < m) (sections : List (List ℕ)) (all : sections ≡ records_of orders) (c : Category) (o : Order) where
    pub speed_there : c ≡ category_of n (rows_of b) → o ≡ order_read (get_or (take m sections) i [])
        → speed_of c f o ≡ get_or (speeds_on (book_of b) n f (sections_of orders)) i (section_speed (book_of b) n f (order_read []))
    unfolding section_speed
    speed_there d e =
        let read = e ∙ ap order_read (get_or-take m sections i [] within) ∙ ap (λ (rs : List (List ℕ)). order_read (get_or rs i [])) all ∙ sym (section_at orders i) in
        ap₂ (λ (c : Category) (o : Order). speed_of c f o) (d ∙ ap (category_of n) (sym (book_rows b))) read
        ∙ sym (get_or-map (section_speed (book_of b) n f) (sections_of orders) i (order_read []))
