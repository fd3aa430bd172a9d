-- `judge::train_facts` meets its contract: the groups of refusals, then the facts of its two parts. Assumes nothing.
use native.Mathlib.Omega.{arith}
use mathlib.Core.Path.{◌≡◌, sym, ap, ap₂, ◌∙◌}
use mathlib.Core.List.{List}
use Prim.Native.Nat.{ℕ, ◌*◌}
use lib.ListN.{drop}
use Rattle.std.specs.Prelude.{Ok, Err, is_ok}
use Rattle.std.specs.Result.{result_and}
use Rattle.lists.specs.Refusals.{answered}
use Rattle.record.specs.Vehicles.{vehicles}
use Rattle.account.specs.Accounts.{account_of}
use Rattle.account.specs.Groupings.{GoodPortion}
use Rattle.account.specs.Portions.{accounted}
use Rattle.facts.specs.Engines.{engines_in}
use Rattle.facts.specs.Facts.{facts_of, facts_beside, held}
use Rattle.judge.specs.Answers.{size, train_shape}
use Rattle.judge.specs.Judging.{train_judged, GoodRecords}
use Rattle.judge.specs.declared.Refusal.TheVariants.{WorkingBehind}
use Rattle.account.specs.declared.Account.{Account}
use Rattle.facts.proofs.Demands.{facts_held}
use Rattle.judge.proofs.Answers.{exits, stops, passes, or_err, or_ok}
use Rattle.judge.proofs.Trains.{parted_le, front_fields, portion_at, account_at, none_works, refused_rear, works_behind, sizes_left, front_good, rear_within, facts_are, counted_good, train_steps, train_late}
use Rattle.judge.proofs.train_facts.Goals as goal
use Rattle.judge.proofs.train_facts.Goals.{After-account_of-hauled, After-or, After-size_refusal}

-- the rest's account
rear_at : (e : After-account_of-hauled) → e.account_of-hauled.result ≡ accounted (drop (24 * e.working_count-working.result) e.args.vehicles.now)
rear_at e = e.account_of-hauled.ensures ∙ ap accounted e.split_at.ensures.back

-- 1, 2, 3 and what is lent have passed, and a working engine is in front
late_at : (e : After-or)
    → train_judged e.args.vehicles.now e.args.lent ≡ result_and (answered (train_shape (vehicles e.args.vehicles.now))) (Ok (facts_of (vehicles e.args.vehicles.now)))
late_at e =
    train_late e.args.vehicles.now e.args.lent (sym e.count_refusal.ensures ∙ e.in_ok-count_refusal.was) (sym e.field_refusal_in.ensures ∙ e.in_ok-field_refusal_in.was) e.in_ok-lent.was

records_at : (e : After-or) → GoodRecords e.args.vehicles.now
records_at e = counted_good e.args.vehicles.now (sym e.count_refusal.ensures ∙ e.in_ok-count_refusal.was) (sym e.field_refusal_in.ensures ∙ e.in_ok-field_refusal_in.was)

-- and the rest has an account
account_in : (e : After-size_refusal) → accounted (drop (24 * e.working_count-working.result) e.args.vehicles.now) ≡ Ok e.in_ok-hauled.hauled
account_in e =
    sym (e.account_of-hauled.ensures ∙ ap accounted e.split_at.ensures.back) ∙ or_ok e.account_of-hauled.result WorkingBehind (sym e.or.ensures ∙ e.in_ok-hauled.was)

account_is : (e : After-size_refusal) → e.in_ok-hauled.hauled ≡ account_of (vehicles (drop (24 * e.working_count-working.result) e.args.vehicles.now))
account_is e = account_at e.args.vehicles.now e.working_count-working.result e.working_count-working.ensures e.in_ok-hauled.hauled (account_in e)

portion_in : (e : After-size_refusal) → GoodPortion (drop (24 * e.working_count-working.result) e.args.vehicles.now)
portion_in e = portion_at e.args.vehicles.now e.working_count-working.result e.working_count-working.ensures (ap is_ok (account_in e))

sized_at : (e : After-size_refusal) → GoodRecords e.args.vehicles.now → answered (train_shape (vehicles e.args.vehicles.now)) ≡ e.size_refusal.result
sized_at e g =
    sizes_left e.args.vehicles.now e.working_count-working.result e.working_count-working.ensures g e.if-working-eq0.false (portion_in e)
    ∙ ap (λ (a : Account). answered (size e.working_count-working.result a.count)) (sym (account_is e))
    ∙ sym e.size_refusal.ensures

pub overflow_mul-working : goal.overflow_mul-working
overflow_mul-working c = omega (arith, parted_le c.args.vehicles.now c.working_count-working.result c.working_count-working.ensures)

pub split_at-requires : goal.split_at-requires
split_at-requires c = parted_le c.args.vehicles.now c.working_count-working.result c.working_count-working.ensures

pub field_refusal_in-requires : goal.field_refusal_in-requires
field_refusal_in-requires c = λ ok.
    let bs = c.args.vehicles.now in
    let n = c.working_count-working.result in
    let count = c.working_count-working.ensures in
    let portion = portion_at bs n count (ap is_ok (sym (rear_at (goal.at.field_refusal_in-requires c).After-account_of-hauled)) ∙ sym c.is_ok.ensures.value ∙ ok) in
    rw c.split_at.ensures.front (front_fields bs n count portion.each)

pub returns-in_err-count_refusal : goal.returns-in_err-count_refusal
returns-in_err-count_refusal c =
    exits _ _ c.from_residual.ensures.1 (train_steps c.args.vehicles.now c.args.lent ∙ stops _ (sym c.count_refusal.ensures ∙ c.in_err-count_refusal.was))

pub returns-in_err-field_refusal_in : goal.returns-in_err-field_refusal_in
returns-in_err-field_refusal_in c =
    exits _ _ c.from_residual-in_err-field_refusal_in.ensures.1 (train_steps c.args.vehicles.now c.args.lent ∙ passes _ (sym c.count_refusal.ensures ∙ c.in_ok-count_refusal.was) ∙ stops _ (sym c.field_refusal_in.ensures ∙ c.in_err-field_refusal_in.was))

pub returns-in_err-lent : goal.returns-in_err-lent
returns-in_err-lent c =
    exits _ _ c.from_residual-in_err-lent.ensures.1 (train_steps c.args.vehicles.now c.args.lent
    ∙ passes _ (sym c.count_refusal.ensures ∙ c.in_ok-count_refusal.was)
    ∙ passes _ (sym c.field_refusal_in.ensures ∙ c.in_ok-field_refusal_in.was)
    ∙ stops _ c.in_err-lent.was)

pub returns-then-working-eq0 : goal.returns-then-working-eq0
returns-then-working-eq0 c =
    let bs = c.args.vehicles.now in
    sym (train_late bs c.args.lent (sym c.count_refusal.ensures ∙ c.in_ok-count_refusal.was) (sym c.field_refusal_in.ensures ∙ c.in_ok-field_refusal_in.was) c.in_ok-lent.was
    ∙ stops _ (none_works bs c.working_count-working.result c.working_count-working.ensures c.if-working-eq0.true))

pub returns-in_err-hauled : goal.returns-in_err-hauled
returns-in_err-hauled c =
    let bs = c.args.vehicles.now in
    let n = c.working_count-working.result in
    let count = c.working_count-working.ensures in
    let e = (goal.at.returns-in_err-hauled c).After-or in
    let r = or_err c.account_of-hauled.result (sym c.or.ensures ∙ c.in_err-hauled.was) in
    let behind = refused_rear bs n count (records_at e) (ap is_ok (sym (rear_at (goal.at.returns-in_err-hauled c).After-account_of-hauled)) ∙ r.0) in
    exits _ _ c.from_residual-in_err-hauled.ensures.1 (late_at e ∙ stops _ (works_behind bs n count (records_at e) c.if-working-eq0.false behind) ∙ ap Err (sym r.1))

pub returns-in_err-size_refusal : goal.returns-in_err-size_refusal
returns-in_err-size_refusal c =
    let e = (goal.at.returns-in_err-size_refusal c).After-or in
    exits _ _ c.from_residual-in_err-size_refusal.ensures.1 (late_at e ∙ stops _ (sized_at (goal.at.returns-in_err-size_refusal c).After-size_refusal (records_at e) ∙ c.in_err-size_refusal.was))

pub returns : goal.returns
returns c =
    let bs = c.args.vehicles.now in
    let n = c.working_count-working.result in
    let count = c.working_count-working.ensures in
    let e = (goal.at.returns c).After-or in
    let g = (goal.at.returns c).After-size_refusal in
    let sized = sized_at g (records_at e) ∙ c.in_ok-size_refusal.was in
    let portion = portion_in g in
    let engines = front_good bs n count (records_at e) c.if-working-eq0.false portion
    (ap is_ok (sym (sizes_left bs n count (records_at e) c.if-working-eq0.false portion) ∙ sized)) in
    ap Ok
    (c.facts_beside.ensures
    ∙ ap₂ (λ (es : List ℕ) (a : Account). held (facts_beside (engines_in es) a)) c.split_at.ensures.front (account_is g)
    ∙ facts_held _ _ engines (rear_within bs n count (records_at e) c.if-working-eq0.false portion)
    ∙ facts_are bs n count (records_at e) c.if-working-eq0.false portion)
    ∙ sym (late_at e ∙ passes _ sized)
