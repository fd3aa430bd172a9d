-- `judge::lent_refusal` meets its contract: the room is asked of a good order, which is read as its fields say. Assumes nothing.
use mathlib.Core.Path.{◌∙◌}
use Rattle.judge.proofs.Sheets.{order_tests_lem}
use Rattle.judge.proofs.lent_refusal.Goals as goal

pub returns : goal.returns
returns c =
    c.order_refusal.ensures ∙ order_tests_lem _ c.args.order.now c.args.o _ c.args.room c.is_good_order.ensures c.requires c.length_of.ensures
