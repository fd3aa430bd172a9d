-- `order::is_good_order` meets its contract: the code's table is the book's, and each field of it is placed, so its ranges are asked. Assumes nothing.
use mathlib.Core.Path.{◌≡◌, sym, ap, ◌∙◌}
use mathlib.Core.Bool.{Bool}
use mathlib.Core.List.{List}
use Prim.Native.Nat.{ℕ}
use Rattle.record.specs.Ranges.{Field, good_by, in_ranges}
use Rattle.record.proofs.Demands.{ranges_alone}
use Rattle.order.specs.Orders.{book_in, fields_of, good_order}
use Rattle.order.specs.declared.Book.{Book}
use Rattle.order.specs.declared.Book.TheVariants.{CrossBorder, Domestic}
use Rattle.order.proofs.Orders.{all_placed}
use Rattle.order.proofs.Demands.{order_rows}
use Rattle.order.proofs.is_good_order.Goals as goal

by_book : (r : List ℕ) (b : Book) (t : List Field) (x : Bool) → t ≡ fields_of b → book_in r ≡ b → x ≡ good_by t r → x ≡ good_order r
unfolding good_order
by_book r b t x table book e =
    e
    ∙ ap (λ (t : List Field). good_by t r) table
    ∙ ranges_alone (fields_of b) r (all_placed b)
    ∙ ap (λ (b : Book). in_ranges (fields_of b) r) (sym book)

pub returns-in-CrossBorder : goal.returns-in-CrossBorder
returns-in-CrossBorder c = by_book c.args.order.now CrossBorder _ _ order_rows.0 (sym c.in-CrossBorder.ensures) c.is_in_ranges.ensures

pub returns-in-Domestic : goal.returns-in-Domestic
returns-in-Domestic c = by_book c.args.order.now Domestic _ _ order_rows.1 (sym c.in-Domestic.ensures) c.is_in_ranges-in-Domestic.ensures
