-- `travel::offered_by` meets its contract: its tests are the definition's. Assumes nothing.
use mathlib.Core.Path.{◌≡◌, sym, ap, ◌∙◌}
use mathlib.Core.Bool.{false}
use Rattle.travel.specs.AccountRecords.{account_in, is_plain}
use Rattle.travel.proofs.AccountRecords.{plain_short, offered_plain, offered_by_test}
use Rattle.travel.proofs.offered_by.Goals as goal
use Rattle.travel.proofs.offered_by.Goals.{in_default-via-in-Some+else-is_plain, in_default-via-in_default}

pub returns-in-Some : goal.returns-in-Some
returns-in-Some c = c.account_in.ensures ∙ offered_plain c.args.bytes.now c.in-Some.bytes.now c.in-Some.ensures.cases.same (sym c.if-is_plain.ensures)

-- bytes that are no 128,
-- or not plain, offer one above its ceiling
pub returns-in_default : goal.returns-in_default
returns-in_default c =
    let bs = c.args.bytes.now in
    let none : is_plain bs ≡ false = elim c.in_default.branch [ in_default-via-in-Some+else-is_plain w ↦ ap is_plain (sym w.in-Some.ensures.cases.same) ∙ sym w.if-is_plain.ensures | in_default-via-in_default w ↦ sym (plain_short bs w.in_default.ensures.cases) ] in
    c.account_in-in_default.ensures ∙ ap account_in c.above_ceiling.ensures ∙ offered_by_test bs false none
