-- `account::account_of` meets its contract: the records before `i` are good and hauled, and what is gathered is theirs. Assumes nothing.
use native.Mathlib.Omega.{arith}
use mathlib.Core.Path.{◌≡◌, refl, sym, ap, ◌∙◌}
use mathlib.Core.Bool.{Bool, true}
use lib.Dec.{eqb}
use Prim.Native.Nat.{ℕ}
use borrow.Author.Tests.{eqb-false, eqb-true}
use Rattle.std.specs.Prelude.{Ok}
use Rattle.account.specs.declared.Account.{Account}
use Rattle.account.specs.Answers.{refused_by}
use Rattle.lists.specs.Words.{all}
use Rattle.record.specs.Records.{record_count, records}
use Rattle.record.specs.Vehicles.{vehicles, is_working}
use Rattle.record.proofs.Vehicles.{records_more, first_place_lem, good_reading, bad_reading}
use Rattle.account.proofs.Joins.{refused_is}
use Rattle.account.proofs.Gathers.{each_more, gathered_more, room}
use Rattle.account.proofs.Portions.{read_at, Turn, turn, none_working, working_there, answer_1, answer_2, answer_3, answer_6, answer_0}
use borrow.Author.Rules.{rules}
use Rattle.account.proofs.account_of.Goals as goal
use Rattle.account.proofs.account_of.Goals.{Else-eq}

-- no byte is left behind the records
whole : {k n : ℕ} {b : Bool} → k ≡ n → b ≡ eqb k 0 → b ≡ true → n ≡ 0
whole e f t = sym e ∙ eqb-true _ 0 (sym f ∙ t)

pub returns-then-not-is_empty : goal.returns-then-not-is_empty
returns-then-not-is_empty c = refused_is c.refused_by.ensures ∙ answer_1 _ (λ e. eqb-false _ 0 (sym c.is_empty.ensures ∙ c.if-not-is_empty.true) (c.as_chunks.ensures.back_len ∙ e))

pub returns-then-records-gt-MOST : goal.returns-then-records-gt-MOST
returns-then-records-gt-MOST c =
    refused_is c.refused_by-then-records-gt-MOST.ensures
    ∙ answer_2 _ (whole c.as_chunks.ensures.back_len c.is_empty.ensures c.if-not-is_empty.false) (omega (arith, c.as_chunks.ensures.front_len, c.if-records-gt-MOST.true))

pub loop-i-init : goal.loop-i-init
unfolding all records
loop-i-init c = record { fine = refl; each = tt; sums = c.new-gathered.ensures }

pub returns-in_default : goal.returns-in_default
returns-in_default c =
    let bs = c.args.portion.now in
    let i = c.loop-i.i in
    let none = read_at bs _ i _ c.as_chunks.ensures.front (omega (arith, c.as_chunks.ensures.front_len)) c.in_default.ensures in
    refused_is c.refused_by-in_default.ensures
    ∙ answer_3 bs (whole c.as_chunks.ensures.back_len c.is_empty.ensures c.if-not-is_empty.false) (omega (arith, c.as_chunks.ensures.front_len)) i
    (first_place_lem _ i bs (omega (arith, c.as_chunks.ensures.front_len)) c.loop-i.invariant.fine (bad_reading _ none))

pub returns-then-eq : goal.returns-then-eq
returns-then-eq c =
    let bs = c.args.portion.now in
    let i = c.loop-i.i in
    let w : c.eq.result ≡ is_working c.in-Some.vehicle = search rules in
    let g = good_reading _ _ (read_at bs _ i _ c.as_chunks.ensures.front (omega (arith, c.as_chunks.ensures.front_len)) c.in-Some.ensures) in
    refused_is (c.refused_by-then-eq.ensures ∙ ap refused_by c.engine_or_bad.ensures)
    ∙ answer_6 bs (whole c.as_chunks.ensures.back_len c.is_empty.ensures c.if-not-is_empty.false) (omega (arith, c.as_chunks.ensures.front_len))
    (working_there bs i (omega (arith, c.as_chunks.ensures.front_len)) (sym (ap is_working g.1) ∙ sym w ∙ c.if-eq.true))

-- the record at `i` was read, and is no working engine
here : (e : Else-eq) → Turn e.args.portion.now e.loop-i.i e.in-Some.vehicle
here e =
    let bs = e.args.portion.now in
    let i = e.loop-i.i in
    let w : e.eq.result ≡ is_working e.in-Some.vehicle = search rules in
    turn bs i _ (read_at bs _ i _ e.as_chunks.ensures.front (omega (arith, e.as_chunks.ensures.front_len)) e.in-Some.ensures) (sym w ∙ e.if-eq.false)

pub add-requires : goal.add-requires
add-requires c =
    room c.args.portion.now c.loop-i.i c.in-Some.vehicle (here (goal.at.add-requires c).Else-eq) c.loop-i.gathered c.loop-i.invariant.each (omega (arith, c.loop-i-test.true)) c.loop-i.invariant.sums

pub loop-i-preserved : goal.loop-i-preserved
loop-i-preserved c =
    let bs = c.args.portion.now in
    let i = c.loop-i.i in
    let t = here (goal.at.loop-i-preserved c).Else-eq in
    record {
      fine = records_more bs i c.loop-i.invariant.fine t.fine;
      each = each_more bs i _ t c.loop-i.invariant.each;
      sums = gathered_more bs i _ t c.loop-i.gathered _ c.loop-i.invariant.sums c.add.ensures;
    }

pub account-requires : goal.account-requires
account-requires c =
    let bs = c.args.portion.now in
    let end : c.loop-i.i ≡ record_count bs = omega (arith, c.as_chunks.ensures.front_len) in
    record {
      portion_bound = omega (arith, c.as_chunks.ensures.front_len);
      each = rw end at c.loop-i.invariant.each;
      gathered = rw end at c.loop-i.invariant.sums;
    }

pub returns : goal.returns
returns c =
    let bs = c.args.portion.now in
    let end : c.loop-i.i ≡ record_count bs = omega (arith, c.as_chunks.ensures.front_len) in
    let each = rw end at c.loop-i.invariant.each in
    ap (λ (a : Account). Ok a) c.account.ensures
    ∙ answer_0 bs (whole c.as_chunks.ensures.back_len c.is_empty.ensures c.if-not-is_empty.false) (omega (arith, c.as_chunks.ensures.front_len))
    (rw end at c.loop-i.invariant.fine) (none_working (vehicles bs) each)
