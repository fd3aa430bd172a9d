-- `bench::text::put_hex` meets its contract: two digits more for each byte. Assumes nothing.
use Rattle.std.proofs.Common.{[], ◌∷◌, refl, arith}
use Rattle.bench.proofs.Texts.{text_behind, hex_behind, hex_put}
use Rattle.bench.proofs.text.put_hex.Goals as goal

pub push-requires : goal.push-requires
push-requires c =
    let l = c.loop-b in
    (omega arith, omega (arith, hex_behind c.args.line.now.items c.args.bytes.now l.b-index (omega arith) l.invariant))

pub push-requires-in-loop-b : goal.push-requires-in-loop-b
push-requires-in-loop-b c =
    let l = c.loop-b in
    (omega arith, omega (arith, c.push.ensures.len, hex_behind c.args.line.now.items c.args.bytes.now l.b-index (omega arith) l.invariant))

pub loop-b-preserved : goal.loop-b-preserved
loop-b-preserved c =
    let l = c.loop-b in
    let two = text_behind l.line.items (c.glyph.result ∷ []) (c.glyph-in-loop-b.result ∷ []) c.push.ensures.items c.push-in-loop-b.ensures.items refl in
    hex_put c.args.line.now.items c.args.bytes.now l.b-index c.glyph.result c.glyph-in-loop-b.result (omega arith) l.invariant two c.glyph.ensures c.glyph-in-loop-b.ensures
