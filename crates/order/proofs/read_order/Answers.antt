-- `order::read_order` meets its contract, by the length. Assumes nothing.
use mathlib.Core.Path.{sym, ◌∙◌, ap}
use Rattle.order.specs.Orders.{order_of}
use Rattle.order.proofs.Orders.{read_long, read_short}
use Rattle.order.proofs.read_order.Goals as goal

pub returns-in-Some : goal.returns-in-Some
returns-in-Some c = c.order_of.ensures ∙ ap order_of c.in-Some.ensures.cases.same ∙ sym (read_long _ c.in-Some.ensures.cases.long)

pub returns-in-None : goal.returns-in-None
returns-in-None c = read_short _ c.in-None.ensures.cases
