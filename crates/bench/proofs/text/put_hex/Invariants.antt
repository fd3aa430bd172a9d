-- `bench::text::put_hex` meets its contract: the hex of the bytes so far stands behind what stood there. Assumes nothing.
use Rattle.std.proofs.Common.{◌≡◌, ◌++◌, take}
use Rattle.bench.specs.Texts.{hex}
use Rattle.bench.proofs.text.put_hex.Given as goal

abbrev pub invariant-loop-b : goal.invariant-loop-b
invariant-loop-b l = l.line.items ≡ l.initial.line.items ++ hex (take l.b-index l.bytes)
