-- The record that holds the speed of short lists, and of two portions, a table and a proof each about the definition. Assumes nothing.
use mathlib.Core.Path.{◌≡◌, refl}
use mathlib.Core.List.{map}
use Rattle.lists.specs.Words.{all}
use Rattle.lists.specs.Numbers.{little_endian}
use Rattle.closing.specs.Closing.{closes}
use Rattle.record.specs.Records.{records}
use Rattle.record.specs.Vehicles.{good}
use Rattle.speed.specs.Speed.{first_with, slowest_of, whole_good, holds_the_speed}
use Rattle.speed.specs.Cases.{lists, holding, of_portions, held}

pub cases : map slowest_of lists ≡ holding
unfolding slowest_of first_with all
cases = refl

pub of_portions_lem : of_portions ≡ held
unfolding holds_the_speed whole_good slowest_of first_with all good closes little_endian records
of_portions_lem = refl
