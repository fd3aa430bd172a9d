-- Numbers that close and their neighbours, in a single table, with one proof about the definition. Assumes nothing.
use mathlib.Core.Path.{◌≡◌, refl}
use mathlib.Core.List.{map}
use Rattle.closing.specs.Closing.{closes}
use Rattle.closing.specs.Cases.{numbers, expected}

pub cases : map closes numbers ≡ expected
unfolding closes
cases = refl
