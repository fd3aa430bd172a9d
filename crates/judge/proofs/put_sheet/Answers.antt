-- `judge::put_sheet` meets its contract: what stands in the sheet is what the facts give. Assumes nothing.
use native.Mathlib.Omega.{arith}
use mathlib.Core.Path.{◌≡◌, ap, ◌∙◌}
use lib.ListN.{length, take}
use lib.Seq.{length-take-le}
use Rattle.judge.specs.Answers.{sheet_for}
use Rattle.sheets.proofs.Demands.{sheet_in_most}
use Rattle.judge.proofs.Sheets.{length_most, laid}
use borrow.Author.Rules.{rules}
use Rattle.judge.proofs.put_sheet.Goals as goal

pub returns : goal.returns
unfolding sheet_for
returns c =
    let a = c.args in
    let n = c.length_of-n.result in
    let made = c.sheet_of-made.result in
    let whole : length made ≡ 33 = search rules in
    let copied = c.copy_from_slice.ensures.after in
    let line = copied ∙ (λ i. take (c.length_of-n.ensures i) (c.sheet_of-made.ensures i)) ∙ sheet_in_most a.o.book a.f a.o in
    let long : n ≡ length (sheet_for a.f a.o) = omega (arith, ap length line, ap length copied, length-take-le n made (omega (arith, whole, c.length_of-n.ensures, length_most a.o.book))) in
    laid _ (sheet_for a.f a.o) a.sheet.now n line long
