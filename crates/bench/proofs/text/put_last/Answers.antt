-- `bench::text::put_last` meets its contract. Assumes nothing.
use Rattle.std.proofs.Common.{refl, arith}
use Rattle.bench.specs.Texts.{bytes_text, last_field}
use Rattle.bench.proofs.Texts.{bytes_length, length_behind, text_behind}
use Rattle.bench.proofs.text.put_last.Goals as goal

pub push-requires : goal.push-requires
push-requires c =
    let a = c.args in
    (omega arith, omega (arith, bytes_length a.done a.bytes.now, length_behind a.line.now.items (bytes_text a.done a.bytes.now) c.put_bytes.ensures))

pub returns : goal.returns
unfolding last_field
returns c = text_behind _ _ _ c.put_bytes.ensures c.push.ensures.items refl
