-- `route::section_refusal` meets its contract: test by test. Assumes nothing.
use mathlib.Core.Path.{sym, ◌∙◌}
use borrow.Author.Tests.{lt-ltb, le-ltb}
use Rattle.route.proofs.Routes.{refused_section, refused_room, none_refused, some_bad_lem}
use Rattle.route.proofs.section_refusal.Goals as goal

pub returns-then-place-n : goal.returns-then-place-n
returns-then-place-n c =
    let a = c.args in
    refused_section a.orders.now a.room c.if-orders-n.false _ c.leading_good-place.ensures (sym (some_bad_lem a.orders.now _ c.leading_good-place.ensures) ∙ lt-ltb _ _ c.if-place-n.true)

pub returns-then-room-n : goal.returns-then-room-n
returns-then-room-n c =
    let a = c.args in
    refused_room a.orders.now a.room c.if-orders-n.false (sym (some_bad_lem a.orders.now _ c.leading_good-place.ensures) ∙ le-ltb _ _ c.if-place-n.false) (lt-ltb _ _ c.if-room-n.true)

pub returns : goal.returns
returns c =
    let a = c.args in
    none_refused a.orders.now a.room c.if-orders-n.false (sym (some_bad_lem a.orders.now _ c.leading_good-place.ensures) ∙ le-ltb _ _ c.if-place-n.false) (le-ltb _ _ c.if-room-n.false)
