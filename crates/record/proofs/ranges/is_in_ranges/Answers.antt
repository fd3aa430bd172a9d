-- `record::ranges::is_in_ranges` meets its contract: each row is placed and in its range, of 24 bytes. Assumes nothing.
use mathlib.Core.Path.{sym, ap, ◌∙◌}
use mathlib.Core.Bool.{◌&&◌}
use mathlib.Core.List.{List}
use Prim.Native.Nat.{ℕ}
use native.Mathlib.Omega.{arith}
use Rattle.std.proofs.Common.{rules, tests}
use Rattle.std.proofs.lemmas.Iterator.{YieldsList-from_slice}
use Rattle.std.proofs.lemmas.Iterator.Search.{all_from_yields_List}
use Rattle.lists.specs.Words.{all}
use Rattle.record.specs.Ranges.{field_good, field_of, table_of, placed}
use Rattle.record.proofs.Tables.{rows_all, short_bad, long_good}
use Rattle.record.proofs.ranges.is_in_ranges.Goals as goal

pub returns-in-Some : goal.returns-in-Some
returns-in-Some c =
    let r = c.in-Some.bytes.now in
    let rows = c.args.table.now in
    let whole = c.in-Some.ensures.cases in
    all_from_yields_List (λ row. placed (field_of row) && field_good r (field_of row)) _ _ c.all.result c.all.ensures.ran (YieldsList-from_slice rows cc) (λ x b q k. search (rules, tests))
    ∙ rows_all (λ d. placed d && field_good r d) rows
    ∙ ap (λ (x : List ℕ). all (λ d. placed d && field_good x d) (table_of rows)) whole.same
    ∙ long_good (table_of rows) c.args.bytes.now (omega (arith, whole.long))

pub returns-in-None : goal.returns-in-None
returns-in-None c = sym (short_bad (table_of c.args.table.now) c.args.bytes.now (λ e. omega (arith, e, c.in-None.ensures.cases)))
