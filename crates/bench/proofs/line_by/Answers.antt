-- `bench::line_by` meets its contract: text behind text. Assumes nothing.
use Rattle.std.proofs.Common.{◌++◌, length, sym, ap, ◌∙◌, arith}
use Rattle.judge.proofs.Demands.{done_number}
use Rattle.bench.specs.Texts.{last_field}
use Rattle.bench.specs.Lines.{answer_fields, line_by}
use Rattle.bench.proofs.Texts.{length_behind, text_begun}
use Rattle.bench.proofs.Lines.{answer_length}
use Rattle.bench.proofs.line_by.Goals as goal

pub put_last-requires : goal.put_last-requires
put_last-requires c =
    let number = c.number_of.result in
    let place = c.place_of.result in
    omega (arith, answer_length number place, ap length c.new-line.ensures, length_behind c.new-line.result.items (answer_fields number place) c.put_answer.ensures)

pub returns : goal.returns
unfolding line_by
returns c =
    let number = c.number_of in
    let place = c.place_of in
    let sheet = c.args.sheet.now in
    let done = c.is_ok.ensures.value ∙ sym (done_number c.args.answer) in
    text_begun (answer_fields number.result place.result) (last_field c.is_ok.result sheet) c.new-line.ensures c.put_answer.ensures c.put_last.ensures
    (λ i. answer_fields (number.ensures i) (place.ensures i) ++ last_field (done i) sheet)
