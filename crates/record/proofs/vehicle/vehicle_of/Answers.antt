-- `record::vehicle::vehicle_of` meets its contract, field by field; a good record's kind and setting are read. Assumes nothing.
use mathlib.Core.Path.{◌≡◌, sym, ap, ◌∙◌}
use Rattle.std.specs.Prelude.{Some}
use Rattle.std.proofs.lemmas.Option.{none-some, same_Some}
use Rattle.record.specs.Ranges.{value}
use Rattle.record.specs.Vehicles.{nth, kind_of, setting_of, vehicle}
use Rattle.record.proofs.Vehicles.{kind_read, setting_read}
use Rattle.record.proofs.vehicle.vehicle_of.Goals as goal

pub returns-in_err-ok : goal.returns-in_err-ok
returns-in_err-ok c =
    absurd (none-some _ (sym c.in_err-ok.was ∙ c.ok.ensures.value ∙ kind_read c.args.bytes.now c.requires c.try_from.result c.try_from.ensures))

pub returns-in_err-ok-2 : goal.returns-in_err-ok-2
returns-in_err-ok-2 c =
    absurd (none-some _ (sym c.in_err-ok-2.was ∙ c.ok-2.ensures.value ∙ setting_read c.args.bytes.now c.requires c.try_from-2.result c.try_from-2.ensures))

pub returns : goal.returns
unfolding vehicle
returns c =
    let bs = c.args.bytes.now in
    let kind : c.in_ok-ok.field-0 ≡ kind_of (value bs (nth 6)) =
    same_Some _ _ (sym c.in_ok-ok.was ∙ c.ok.ensures.value ∙ kind_read bs c.requires c.try_from.result c.try_from.ensures) in
    let setting : c.in_ok-ok-2.field-0 ≡ setting_of (value bs (nth 7)) =
    same_Some _ _ (sym c.in_ok-ok-2.was ∙ c.ok-2.ensures.value ∙ setting_read bs c.requires c.try_from-2.result c.try_from-2.ensures) in
    ap Some (simp (
      kind,
      setting,
      c.number_in.ensures,
      c.number_in-2.ensures,
      c.number_in-3.ensures,
      c.number_in-4.ensures,
      c.small_in.ensures,
      c.small_in-2.ensures,
      c.small_in-3.ensures,
      c.small_in-4.ensures,
      c.small_in-5.ensures,
      c.small_in-6.ensures,
    ))
