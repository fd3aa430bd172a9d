-- `judge::groups::field_refusal` meets its contract. Assumes nothing.
use mathlib.Core.Path.{◌≡◌, sym, ap, ◌∙◌}
use mathlib.Core.Bool.{true, false}
use Rattle.lists.specs.Words.{all}
use Rattle.record.specs.Records.{records_of}
use Rattle.record.specs.Vehicles.{good}
use Rattle.record.proofs.Vehicles.{is_nothing, bad_is, bad_place}
use Rattle.judge.proofs.groups.field_refusal.Goals as goal

pub returns-in-Some : goal.returns-in-Some
returns-in-Some c =
    let rs = records_of c.args.records.now in
    let found = sym c.in-Some.is ∙ c.first_bad.ensures in
    let fine : all good rs ≡ false = sym (bad_is rs) ∙ sym (ap is_nothing found) in
    rw (fine, bad_place rs _ found)

pub returns-in-None : goal.returns-in-None
returns-in-None c =
    let rs = records_of c.args.records.now in
    let found = sym c.in-None.is ∙ c.first_bad.ensures in
    let fine : all good rs ≡ true = sym (bad_is rs) ∙ sym (ap is_nothing found) in
    rw fine
