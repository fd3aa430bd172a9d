-- `sections::grant::put_speeds` meets its contract: the first `i` speeds are laid. Assumes nothing.
use Prim.Native.Nat.{ℕ, ◌<◌, min}
use native.Mathlib.Omega.{arith}
use mathlib.Core.Path.{◌≡◌, ap, ◌∙◌}
use mathlib.Core.List.{List, []}
use lib.ListN.{length, set, length-set, length-take}
use Rattle.record.specs.Records.{record_count}
use Rattle.record.proofs.Records.{length_records}
use Rattle.order.specs.Orders.{order_read}
use Rattle.order.specs.declared.Order.{Order}
use Rattle.categories.specs.Categories.{category_of, rows_of}
use Rattle.books.specs.Books.{book_of}
use Rattle.sections.specs.Routes.{section_speed, speeds_on}
use Rattle.sections.specs.Sections.{sections_of, book_named_in}
use Rattle.sections.proofs.Lays.{laid_more, laid_whole, length_speeds, speed_there}
use Rattle.sections.proofs.grant.put_speeds.Goals as goal

pub loop-i-preserved : goal.loop-i-preserved
loop-i-preserved c =
    let a = c.args in
    let o = a.orders.now in
    let b = book_named_in o in
    let i = c.loop-i.i in
    let n = c.min-n.result in
    let sections = c.sections_in-sections.result.now in
    let within : c.loop-i.i < c.min-n.result = omega (arith, length-take c.min-n.result c.sections_in-sections.result.now) in
    let bytes = speeds_on (book_of b) a.number a.f (sections_of o) in
    let inside : c.loop-i.i < length (speeds_on (book_of b) a.number a.f (sections_of o)) =
    omega (arith, length_speeds b a.number a.f o, length_records (record_count o) o, ap length c.sections_in-sections.ensures) in
    let room : c.loop-i.i < length a.speeds.now = omega arith in
    let category = c.category_of-c.ensures ∙ ap (λ (x : Order). category_of a.number (rows_of x.book)) c.first_section.ensures in
    let speed = c.speed_for.ensures ∙ speed_there b a.number a.f o i n within sections c.sections_in-sections.ensures _ _ category c.read_order.ensures in (
      ap (λ (s : List ℕ). set s i c.speed_for.result) c.loop-i.invariant.0 ∙ laid_more bytes a.speeds.now i (section_speed (book_of b) a.number a.f (order_read [])) c.speed_for.result inside room speed,
      length-set c.loop-i.speeds i c.speed_for.result ∙ c.loop-i.invariant.1,
    )

pub returns : goal.returns
returns c =
    let a = c.args in
    let o = a.orders.now in
    let b = book_named_in o in
    let n : c.loop-i.i ≡ min (length (speeds_on (book_of b) a.number a.f (sections_of o))) (length a.speeds.now) =
    omega (arith, length_speeds b a.number a.f o, length_records (record_count o) o, ap length c.sections_in-sections.ensures, length-take c.min-n.result c.sections_in-sections.result.now) in
    c.loop-i.invariant.0 ∙ laid_whole _ _ c.loop-i.i n
