-- `judge::sheet_of_train` meets its contract: what is judged is shown. Assumes nothing.
use Prim.Native.Nat.{◌≤◌}
use mathlib.Core.Path.{sym, ap, ◌∙◌, subst}
use mathlib.Core.List.{◌++◌}
use lib.ListN.{length, drop}
use Rattle.std.specs.Prelude.{Result, ⊤}
use Rattle.record.specs.Vehicles.{vehicles}
use Rattle.facts.specs.Facts.{facts_of}
use Rattle.order.specs.Orders.{order_of}
use Rattle.order.specs.declared.Order.{Order}
use Rattle.sheets.specs.Sheets.{sheet_length}
use Rattle.judge.specs.Answers.{sheet_for, written}
use Rattle.judge.specs.declared.Refusal.{Refusal}
use Rattle.judge.proofs.Answers.{exits}
use Rattle.judge.proofs.Sheets.{train_told}
use Rattle.judge.proofs.sheet_of_train.Goals as goal

pub returns-in_err-f : goal.returns-in_err-f
returns-in_err-f c =
    let a = c.args in
    let refused = (train_told a.vehicles.now a.order.now a.sheet.now _ c.lent_refusal-lent.ensures _ c.train_facts.ensures).refused _ c.in_err-f.was in
    record {
      value = exits _ _ c.from_residual.ensures.1 refused;
      sheet_after = sym (ap (λ (x : Result ⊤ Refusal). written x (sheet_for (facts_of (vehicles a.vehicles.now)) (order_of a.order.now)) a.sheet.now) refused);
    }

pub put_sheet-requires : goal.put_sheet-requires
put_sheet-requires c =
    let a = c.args in
    subst (λ (o : Order). sheet_length o.book ≤ length a.sheet.now) (sym c.read_order-o.ensures)
    ((train_told a.vehicles.now a.order.now a.sheet.now _ c.lent_refusal-lent.ensures _ c.train_facts.ensures).room _ c.in_ok-f.was)

pub returns : goal.returns
returns c =
    let a = c.args in
    let told = train_told a.vehicles.now a.order.now a.sheet.now _ c.lent_refusal-lent.ensures _ c.train_facts.ensures in
    record {
      value = sym (told.done _ c.in_ok-f.was);
      sheet_after =
          c.put_sheet.ensures
          ∙ ap (λ (o : Order). sheet_for c.in_ok-f.f o ++ drop (length (sheet_for c.in_ok-f.f o)) a.sheet.now) c.read_order-o.ensures
          ∙ told.shown _ c.in_ok-f.was;
    }
