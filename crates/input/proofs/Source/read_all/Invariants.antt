-- What stands read fits the buffer at each turn. Assumes nothing.
use Rattle.std.specs.Prelude.{◌≤◌, length}
use Rattle.input.proofs.Source.read_all.Given as goal

abbrev pub invariant-loop : goal.invariant-loop
invariant-loop l = l.done ≤ length l.buffer
