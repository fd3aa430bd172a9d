-- `record::vehicle::leading_engines` meets its contract: a hauled engine has 1 at byte 17. Assumes nothing.
use mathlib.Core.Path.{sym, ◌∙◌}
use Rattle.record.specs.Records.{records_of}
use Rattle.record.proofs.Vehicles.{front_engines}
use Rattle.record.proofs.vehicle.leading_engines.Goals as goal

pub returns : goal.returns
returns c = c.leading_with.ensures ∙ sym (front_engines (records_of c.args.records.now))
