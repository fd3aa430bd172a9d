-- `lists::number::number` meets its contract: `x` is the number of the bytes from the last one on. Assumes nothing.
use Prim.Native.Nat.{◌-◌}
use mathlib.Core.Path.{◌≡◌}
use lib.ListN.{length, take, drop}
use Rattle.lists.specs.Numbers.{little_endian}
use Rattle.lists.proofs.number.number.Given as goal

abbrev pub invariant-loop-byte : goal.invariant-loop-byte
invariant-loop-byte l = l.x ≡ little_endian (drop (l.width - length l.yielded) (take l.width l.bytes))
