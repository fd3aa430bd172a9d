-- `judge::account_facts` meets its contract: three groups of refusals, then the facts that are held are the facts. Assumes nothing.
use mathlib.Core.Path.{sym, ap, ◌∙◌}
use Rattle.std.specs.Prelude.{Ok, is_ok}
use Rattle.facts.proofs.Demands.{facts_held}
use Rattle.judge.specs.Judging.{account_judged}
use Rattle.judge.proofs.Answers.{exits, stops, passes}
use Rattle.judge.proofs.Engines.{engines_ready, hauled_within, none_works, all_work, account_late}
use Rattle.judge.proofs.account_facts.Goals as goal

pub returns-in_err-engine_refusal : goal.returns-in_err-engine_refusal
unfolding account_judged
returns-in_err-engine_refusal c =
    exits _ _ c.from_residual.ensures.1 (stops _ (sym c.engine_refusal.ensures ∙ c.in_err-engine_refusal.was))

pub returns-in_err-lent : goal.returns-in_err-lent
unfolding account_judged
returns-in_err-lent c =
    exits _ _ c.from_residual-in_err-lent.ensures.1 (passes _ (sym c.engine_refusal.ensures ∙ c.in_ok-engine_refusal.was) ∙ stops _ c.in_err-lent.was)

pub returns-then-working_count-n : goal.returns-then-working_count-n
returns-then-working_count-n c =
    let a = c.args in
    sym (account_late a.engines.now a.hauled a.lent (sym c.engine_refusal.ensures ∙ c.in_ok-engine_refusal.was) c.in_ok-lent.was
    ∙ stops _ (none_works a.engines.now a.hauled _ c.working_count.ensures c.if-working_count-n.true))

pub returns-in_err-size_refusal : goal.returns-in_err-size_refusal
returns-in_err-size_refusal c =
    let a = c.args in
    exits _ _ c.from_residual-in_err-size_refusal.ensures.1 (account_late a.engines.now a.hauled a.lent (sym c.engine_refusal.ensures ∙ c.in_ok-engine_refusal.was) c.in_ok-lent.was
    ∙ stops _ (all_work a.engines.now a.hauled _ c.working_count.ensures c.if-working_count-n.false ∙ sym c.size_refusal.ensures ∙ c.in_err-size_refusal.was))

pub returns : goal.returns
returns c =
    let a = c.args in
    let first = sym c.engine_refusal.ensures ∙ c.in_ok-engine_refusal.was in
    let late = all_work a.engines.now a.hauled _ c.working_count.ensures c.if-working_count-n.false ∙ sym c.size_refusal.ensures ∙ c.in_ok-size_refusal.was in
    let ready = engines_ready a.engines.now a.hauled (ap is_ok first) (ap is_ok late) in
    let within = hauled_within a.engines.now a.hauled (ap is_ok first) (ap is_ok late) in
    ap Ok (c.facts_beside.ensures ∙ facts_held a.engines.now a.hauled ready within)
    ∙ sym (account_late a.engines.now a.hauled a.lent first c.in_ok-lent.was ∙ passes _ late)
