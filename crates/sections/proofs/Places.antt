-- The sections of a route as code reads them. Assumes nothing.
use Prim.Native.Nat.{ℕ, zero, suc, ◌*◌, ◌≤◌, ◌<◌}
use native.Mathlib.Omega.{arith}
use mathlib.Core.Path.{◌≡◌, refl, sym, ap, ap₂, ◌∙◌}
use mathlib.Core.Bool.{true, false, ◌&&◌}
use mathlib.Core.List.{List, [], ◌∷◌, map}
use denote.Enum.Bare.{sameb}
use lib.Dec.{eqb}
use lib.ListN.{length, get_or, take, drop, length-map, length-drop, get_or-map}
use lib.Seq.{length-take-le}
use Rattle.record.specs.Records.{records, record_count, records_of}
use Rattle.record.proofs.Records.{length_records}
use Rattle.order.specs.declared.Book.{Book}
use Rattle.order.specs.declared.Book.TheVariants.{CrossBorder, Domestic}
use Rattle.order.specs.contracts.Book.{the_type}
use Rattle.order.specs.declared.Order.{Order}
use Rattle.order.specs.Orders.{good_order, order_of, order_read}
use Rattle.order.proofs.Demands.{read_good, read_whole}
use Rattle.sections.specs.Routes.{first_on}
use Rattle.sections.specs.Sections.{sections_of, same_book, good_section}

-- ---- a record is read as the order that it says, for it is whole
reads_each : (n : ℕ) (bs : List ℕ) → 24 * n ≤ length bs → map order_read (records n bs) ≡ map order_of (records n bs)
unfolding records
reads_each zero bs h = refl
reads_each (suc n) bs h =
    let first : 24 ≤ length bs = omega arith in
    let rest : 24 * n ≤ length (drop 24 bs) = omega (arith, length-drop 24 bs) in
    ap₂ (λ (o : Order) (os : List Order). o ∷ os) (read_whole (take 24 bs) (length-take-le 24 bs first)) (reads_each n (drop 24 bs) rest)

module _ (orders : List ℕ) where
  pub sections_read : map order_read (records_of orders) ≡ sections_of orders
  sections_read = reads_each (record_count orders) orders (omega arith)

  pub length_sections : length (sections_of orders) ≡ record_count orders
  length_sections = length-map (records_of orders) order_of ∙ length_records (record_count orders) orders

  -- the section at a place
  pub section_at : (i : ℕ) → get_or (sections_of orders) i (order_read []) ≡ order_read (get_or (records_of orders) i [])
  section_at i = ap (λ (os : List Order). get_or os i (order_read [])) (sym sections_read) ∙ get_or-map order_read (records_of orders) i []

-- the first of those read; where there is none, the order of zeros
pub none_read : (rs : List (List ℕ)) → length rs < 1 → order_read [] ≡ first_on (map order_read rs)
unfolding order_read
none_read [] h = refl
none_read (r ∷ rs) h = absurd (omega arith)

pub first_read : (rs : List (List ℕ)) → 1 ≤ length rs → order_read (get_or rs 0 []) ≡ first_on (map order_read rs)
first_read [] h = absurd (omega arith)
first_read (r ∷ rs) h = refl

-- ---- a good section
-- books are told apart as code tells them
same_derived : (a b : Book) → sameb the_type a b ≡ same_book a b
same_derived CrossBorder CrossBorder = refl
same_derived CrossBorder Domestic = refl
same_derived Domestic CrossBorder = refl
same_derived Domestic Domestic = refl

module _ (asked : ℕ) (book : Book) (r : List ℕ) where
  pub section_bad : good_order r ≡ false → false ≡ good_section asked book r
  unfolding good_section
  section_bad e = rw e

  pub section_good : good_order r ≡ true → (eqb (order_read r).asked asked && sameb the_type (order_read r).book book) ≡ good_section asked book r
  unfolding good_section
  section_good e = rw (read_good r e, e, same_derived (order_of r).book book)
