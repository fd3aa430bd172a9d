-- `bench::line_of` meets its contract: the parts of the input, the judging library's answer, the line of it. Assumes nothing.
use Rattle.std.proofs.Common.{ℕ, List, ◌++◌, length, drop, replicate, ◌≡◌, refl, ap, ◌∙◌, rules, arith}
use Rattle.judge.specs.Answers.{answer_number, answer_place}
use Rattle.order.specs.declared.Order.{Order}
use Rattle.sheets.specs.Sheets.{sheet_length}
use Rattle.bench.proofs.Texts.{front_long}
use Rattle.bench.proofs.Lines.{line_length, line_answer}
use Rattle.bench.proofs.line_of.Goals as goal

pub write_front-requires : goal.write_front-requires
write_front-requires c =
    let judged = c.sheet_of_train-answer in
    let shown = c.front-shown in
    let room : 33 ≡ length judged.new.sheet = search rules in
    omega (arith, ap length c.line_by-made.ensures, line_length (answer_number judged.result) (answer_place judged.result) shown.result.now (front_long judged.new.sheet c.length_of.result room shown.ensures))

pub returns : goal.returns
returns c =
    let input = c.args.input.now in
    let order = c.front-order in
    let train = c.behind-vehicles in
    let judged = c.sheet_of_train-answer.ensures in
    let n = c.length_of.ensures ∙ ap (λ (o : Order). sheet_length o.book) c.read_order-o.ensures in
    let e = line_answer input train.result.now order.result.now (replicate 33 0) refl (train.ensures ∙ ap (drop 24) c.front.ensures) order.ensures judged.value judged.sheet_after n c.front-shown.ensures in
    let line = c.line_by-made.ensures ∙ e in
    record { value = c.write_front.ensures.value ∙ ap length line; line_after = c.write_front.ensures.lent_after ∙ ap (λ (l : List ℕ). l ++ drop (length l) c.args.line.now) line }
