-- `bench::put_answer` meets its contract: field behind field. Assumes nothing.
use Rattle.std.proofs.Common.{refl, arith}
use Rattle.bench.specs.Texts.{field}
use Rattle.bench.specs.Lines.{answer_fields}
use Rattle.bench.proofs.Texts.{field_length, length_behind, text_behind}
use Rattle.bench.proofs.put_answer.Goals as goal

pub put_field-requires-2 : goal.put_field-requires-2
put_field-requires-2 c =
    let a = c.args in
    omega (arith, field_length a.number, length_behind a.line.now.items (field a.number) c.put_field.ensures)

pub returns : goal.returns
unfolding answer_fields
returns c = text_behind _ _ _ c.put_field.ensures c.put_field-2.ensures refl
