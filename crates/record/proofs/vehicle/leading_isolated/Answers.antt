-- `record::vehicle::leading_isolated` meets its contract: an isolated record has 0 at byte 18. Assumes nothing.
use mathlib.Core.Path.{sym, ◌∙◌}
use Rattle.record.specs.Records.{records_of}
use Rattle.record.proofs.Vehicles.{front_isolated}
use Rattle.record.proofs.vehicle.leading_isolated.Goals as goal

pub returns : goal.returns
returns c = c.leading_with.ensures ∙ sym (front_isolated (records_of c.args.records.now))
