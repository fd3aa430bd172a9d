-- `record::vehicle::first_bad` meets its contract: a turn of either loop, and where it is left. Assumes nothing.
use Prim.Native.Nat.{ℕ, ◌<◌}
use mathlib.Core.Path.{◌≡◌, refl, sym, ap, ◌∙◌}
use mathlib.Core.Bool.{Bool, true, false}
use mathlib.Core.List.{List, []}
use native.Mathlib.Omega.{arith}
use native.Mathlib.Numerals.{add-one}
use lib.ListN.{length, take, get_or}
use lib.Seq.{take-suc, take_all}
use Rattle.std.specs.Prelude.{Some}
use Rattle.lists.specs.Words.{all}
use Rattle.lists.proofs.Lists.{all_snoc}
use Rattle.closing.specs.Closing.{closes}
use Rattle.record.specs.Records.{record_count, records_of}
use Rattle.record.specs.Ranges.{value, field_good}
use Rattle.record.specs.Vehicles.{fields, nth, good, first_bad, number_closes}
use Rattle.record.specs.declared.vehicle.TheConstants.{VEHICLE}
use Rattle.record.proofs.Records.{record_length, records_at, chunks_records}
use Rattle.record.proofs.Tables.{rows_more, rows_not}
use Rattle.record.proofs.Vehicles.{good_by_closing, fields_bad, number_bad, bad_behind, bad_none}
use Rattle.record.proofs.vehicle.first_bad.Goals as goal

-- a record among the chunks of a file has 24 bytes
chunk_length : (bs : List ℕ) (rs : List (List ℕ)) (i : ℕ) → rs ≡ records_of bs → i < length rs → length rs ≡ record_count bs → length (get_or rs i []) ≡ 24
chunk_length bs rs i e h n =
    ap (λ (xs : List (List ℕ)). length (get_or xs i [])) e ∙ ap length (records_at (record_count bs) bs i (omega arith)) ∙ record_length bs i (omega arith)

-- what the code was told of a record's number
closing_told : (r : List ℕ) (x : ℕ) (told : Bool) → x ≡ value r (nth 0) → told ≡ closes x → number_closes r ≡ told
closing_told r x told e f = sym (f ∙ ap closes e)

-- a bad one behind good ones is the first
found : (bs : List ℕ) (rs : List (List ℕ)) (i : ℕ) → rs ≡ records_of bs → i < length rs → all good (take i rs) ≡ true → good (get_or rs i []) ≡ false → Some i ≡ first_bad (records_of bs)
found bs rs i e h before bad = sym (bad_behind rs i h before bad) ∙ ap first_bad e

pub loop-i-init : goal.loop-i-init
unfolding all
loop-i-init c = refl

pub loop-row-init : goal.loop-row-init
unfolding all
loop-row-init c = refl

pub loop-row-preserved : goal.loop-row-preserved
loop-row-preserved c =
    rows_more (field_good _) VEHICLE c.loop-row.row-index c.loop-row-test.true c.loop-row.invariant (sym c.is_in_range.ensures ∙ c.if-not-is_in_range.false)

pub loop-i-preserved : goal.loop-i-preserved
loop-i-preserved c =
    let rs = c.as_chunks.result.0.now in
    let i = c.loop-i.i in
    let r = get_or rs i [] in
    let e = c.as_chunks.ensures.front ∙ chunks_records (record_count c.args.file.now) c.args.file.now in
    let past : length VEHICLE ≡ c.loop-row.row-index = omega arith in
    let rows : all (field_good r) fields ≡ true = ap (λ (k : ℕ). all (field_good r) (take k fields)) past ∙ c.loop-row.invariant in
    let closed = closing_told r _ _ c.number_in.ensures c.closes.ensures ∙ c.if-not-closes.false in
    let g : good r ≡ true = good_by_closing r (chunk_length c.args.file.now rs i e c.loop-i-test.true c.as_chunks.ensures.front_len) rows ∙ closed in
    rw (add-one, take-suc rs i [] c.loop-i-test.true) (all_snoc good (take i rs) r c.loop-i.invariant g)

pub returns-then-not-is_in_range : goal.returns-then-not-is_in_range
returns-then-not-is_in_range c =
    let rs = c.as_chunks.result.0.now in
    let i = c.loop-i.i in
    let r = get_or rs i [] in
    let e = c.as_chunks.ensures.front ∙ chunks_records (record_count c.args.file.now) c.args.file.now in
    found c.args.file.now rs i e c.loop-i-test.true c.loop-i.invariant
    (fields_bad r (rows_not (field_good r) VEHICLE c.loop-row.row-index c.loop-row-test.true (sym c.is_in_range.ensures ∙ c.if-not-is_in_range.true)))

pub returns-then-not-closes : goal.returns-then-not-closes
returns-then-not-closes c =
    let rs = c.as_chunks.result.0.now in
    let i = c.loop-i.i in
    let r = get_or rs i [] in
    let e = c.as_chunks.ensures.front ∙ chunks_records (record_count c.args.file.now) c.args.file.now in
    found c.args.file.now rs i e c.loop-i-test.true c.loop-i.invariant (number_bad r (closing_told r _ _ c.number_in.ensures c.closes.ensures ∙ c.if-not-closes.true))

pub returns-after-loop-i : goal.returns-after-loop-i
returns-after-loop-i c =
    let rs = c.as_chunks.result.0.now in
    let e = c.as_chunks.ensures.front ∙ chunks_records (record_count c.args.file.now) c.args.file.now in
    sym (bad_none rs (ap (all good) (sym (take_all c.loop-i.i rs (omega arith))) ∙ c.loop-i.invariant)) ∙ ap first_bad e
