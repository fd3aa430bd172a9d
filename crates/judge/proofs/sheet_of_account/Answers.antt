-- `judge::sheet_of_account` meets its contract: what is judged is shown. Assumes nothing.
use Prim.Native.Nat.{◌≤◌}
use mathlib.Core.Path.{sym, ap, ◌∙◌, subst}
use mathlib.Core.List.{◌++◌}
use lib.ListN.{length, drop}
use Rattle.std.specs.Prelude.{Result, ⊤}
use Rattle.record.specs.Vehicles.{vehicles}
use Rattle.facts.specs.Facts.{facts_beside}
use Rattle.order.specs.Orders.{order_of}
use Rattle.order.specs.declared.Order.{Order}
use Rattle.sheets.specs.Sheets.{sheet_length}
use Rattle.judge.specs.Answers.{sheet_for, written}
use Rattle.judge.specs.declared.Refusal.{Refusal}
use Rattle.judge.proofs.Answers.{exits}
use Rattle.judge.proofs.Sheets.{account_told}
use Rattle.judge.proofs.sheet_of_account.Goals as goal

pub returns-in_err-f : goal.returns-in_err-f
returns-in_err-f c =
    let a = c.args in
    let refused = (account_told a.engines.now a.order.now a.sheet.now _ c.lent_refusal-lent.ensures _ a.hauled c.account_facts.ensures).refused _ c.in_err-f.was in
    record {
      value = exits _ _ c.from_residual.ensures.1 refused;
      sheet_after = sym (ap (λ (x : Result ⊤ Refusal). written x (sheet_for (facts_beside (vehicles a.engines.now) a.hauled) (order_of a.order.now)) a.sheet.now) refused);
    }

pub put_sheet-requires : goal.put_sheet-requires
put_sheet-requires c =
    let a = c.args in
    subst (λ (o : Order). sheet_length o.book ≤ length a.sheet.now) (sym c.read_order-o.ensures)
    ((account_told a.engines.now a.order.now a.sheet.now _ c.lent_refusal-lent.ensures _ a.hauled c.account_facts.ensures).room _ c.in_ok-f.was)

pub returns : goal.returns
returns c =
    let a = c.args in
    let told = account_told a.engines.now a.order.now a.sheet.now _ c.lent_refusal-lent.ensures _ a.hauled c.account_facts.ensures in
    record {
      value = sym (told.done _ c.in_ok-f.was);
      sheet_after =
          c.put_sheet.ensures
          ∙ ap (λ (o : Order). sheet_for c.in_ok-f.f o ++ drop (length (sheet_for c.in_ok-f.f o)) a.sheet.now) c.read_order-o.ensures
          ∙ told.shown _ c.in_ok-f.was;
    }
