-- `record::vehicle::working_count` meets its contract: a working engine has 2 at byte 17. Assumes nothing.
use mathlib.Core.Path.{sym, ◌∙◌}
use Rattle.record.specs.Records.{records_of}
use Rattle.record.proofs.Vehicles.{front_working}
use Rattle.record.proofs.vehicle.working_count.Goals as goal

pub returns : goal.returns
returns c = c.leading_with.ensures ∙ sym (front_working (records_of c.args.records.now))
