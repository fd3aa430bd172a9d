-- `record::vehicle::first_bad` meets its contract: the records before `i` are good, and so are the fields before `row` of the record at `i`. Assumes nothing.
use mathlib.Core.Path.{◌≡◌}
use mathlib.Core.Bool.{true}
use lib.ListN.{take}
use Rattle.lists.specs.Words.{all}
use Rattle.record.specs.Ranges.{field_good, table_of}
use Rattle.record.specs.Vehicles.{good}
use Rattle.record.proofs.vehicle.first_bad.Given as goal

abbrev pub invariant-loop-row : goal.invariant-loop-row
invariant-loop-row l = all (field_good l.record) (take l.row-index (table_of l.row-items)) ≡ true

abbrev pub invariant-loop-i : goal.invariant-loop-i
invariant-loop-i l = all good (take l.i l.records) ≡ true
