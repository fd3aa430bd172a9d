-- `exports::prskavon_holds_the_speed` meets its contract: a record fits 24 bytes. Assumes nothing.
use mathlib.Core.Path.{ap, ◌∙◌}
use native.Mathlib.Omega.{arith}
use lib.ListN.{length}
use Rattle.exports.proofs.Lent.{copied, vehicle_fits, vehicle_none, vehicle_there}
use Rattle.exports.proofs.prskavon_holds_the_speed.Goals as goal

pub returns-then-vehicle-lt-SIZE : goal.returns-then-vehicle-lt-SIZE
returns-then-vehicle-lt-SIZE c =
    let a = c.args in
    let e = vehicle_none a.front.now a.back.now (length a.vehicle.now) c.if-vehicle-lt-SIZE.true in
    record { value = ap length e; vehicle_after = copied a.vehicle.now e }

pub copy-requires : goal.copy-requires
copy-requires c =
    omega (arith, vehicle_fits _ _ _ c.holds_the_speed-part.ensures, c.if-vehicle-lt-SIZE.false)

pub returns : goal.returns
returns c =
    let a = c.args in
    let e = c.holds_the_speed-part.ensures ∙ vehicle_there a.front.now a.back.now (length a.vehicle.now) c.if-vehicle-lt-SIZE.false in
    record { value = c.copy.ensures.count ∙ ap length e; vehicle_after = c.copy.ensures.copied ∙ copied a.vehicle.now e }
