-- `route::route_of_train` meets its contract: what is judged is shown. Assumes nothing.
use mathlib.Core.Path.{sym, ap, ◌∙◌}
use Rattle.std.specs.Prelude.{Result, Ok, ⊤}
use Rattle.record.specs.Vehicles.{vehicles}
use Rattle.facts.specs.Facts.{facts_of}
use Rattle.judge.specs.Answers.{written}
use Rattle.judge.specs.declared.Refusal.{Refusal}
use Rattle.judge.proofs.Answers.{exits}
use Rattle.route.specs.Answers.{granted_for, speeds_for, route_by}
use Rattle.route.proofs.Routes.{train_told}
use Rattle.route.proofs.route_of_train.Goals as goal

pub returns-in_err-f : goal.returns-in_err-f
returns-in_err-f c =
    let a = c.args in
    let f = facts_of (vehicles a.vehicles.now) in
    let refused = (train_told a.vehicles.now a.orders.now a.speeds.now _ c.section_refusal-lent.ensures _ c.train_facts.ensures).refused _ c.in_err-f.was in
    record {
      value = exits _ _ c.from_residual.ensures.1 (ap (λ (x : Result ⊤ Refusal). route_by x (granted_for f a.orders.now)) refused);
      speeds_after = sym (ap (λ (x : Result ⊤ Refusal). written x (speeds_for f a.orders.now) a.speeds.now) refused);
    }

pub returns : goal.returns
returns c =
    let a = c.args in
    let told = train_told a.vehicles.now a.orders.now a.speeds.now _ c.section_refusal-lent.ensures _ c.train_facts.ensures in
    record {
      value = ap Ok c.put_route.ensures.value ∙ told.granted _ c.in_ok-f.was;
      speeds_after = c.put_route.ensures.speeds_after ∙ told.shown _ c.in_ok-f.was;
    }
