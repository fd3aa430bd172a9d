-- `bench::route_line_by` meets its contract: text behind text. Assumes nothing.
use Rattle.std.proofs.Common.{◌++◌, length, refl, sym, ap, ◌∙◌, append_assoc, arith}
use Rattle.judge.proofs.Demands.{done_number}
use Rattle.bench.specs.Texts.{field, last_field}
use Rattle.bench.specs.Lines.{answer_fields}
use Rattle.bench.specs.Routes.{route_line_by}
use Rattle.bench.proofs.Texts.{field_length, length_behind, text_behind, text_begun}
use Rattle.bench.proofs.Lines.{answer_length}
use Rattle.bench.proofs.route_line_by.Goals as goal

pub put_field-requires : goal.put_field-requires
put_field-requires c =
    let number = c.number_of.result in
    let place = c.place_of.result in
    omega (arith, answer_length number place, ap length c.new-line.ensures, length_behind c.new-line.result.items (answer_fields number place) c.put_answer.ensures)

pub put_last-requires : goal.put_last-requires
put_last-requires c =
    let number = c.number_of.result in
    let place = c.place_of.result in
    let category = c.from.result in
    omega (
      arith,
      answer_length number place,
      field_length category,
      ap length c.new-line.ensures,
      length_behind c.new-line.result.items (answer_fields number place) c.put_answer.ensures,
      length_behind c.put_answer.new.line.items (field category) c.put_field.ensures,
    )

pub returns : goal.returns
unfolding route_line_by
returns c =
    let number = c.number_of in
    let place = c.place_of in
    let speeds = c.args.speeds.now in
    let answer = answer_fields number.result place.result in
    let third = field c.from.result in
    let last = last_field c.is_ok.result speeds in
    let category = c.from.ensures ∙ c.unwrap_or.ensures in
    let done = c.is_ok.ensures.value ∙ sym (done_number c.args.route) in
    let two = text_behind c.new-line.result.items answer third c.put_answer.ensures c.put_field.ensures refl in
    text_begun (answer ++ third) last c.new-line.ensures two c.put_last.ensures
    (append_assoc answer third last ∙ (λ i. answer_fields (number.ensures i) (place.ensures i) ++ (field (category i) ++ last_field (done i) speeds)))
