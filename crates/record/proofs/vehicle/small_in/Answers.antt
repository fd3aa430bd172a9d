-- `record::vehicle::small_in` meets its contract: the number of at most two bytes fits. Assumes nothing.
use native.Mathlib.Omega.{arith}
use Rattle.record.specs.Vehicles.{nth}
use Rattle.record.proofs.Tables.{value_below}
use Rattle.record.proofs.vehicle.small_in.Goals as goal

pub overflow_cast-result : goal.overflow_cast-result
overflow_cast-result c =
    let a = c.args in
    omega (arith, c.number_in.ensures, value_below a.bytes.now (nth a.f) 2 c.fits-bytes c.requires.1)
