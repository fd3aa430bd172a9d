-- Answers as one number and the room of an account in a single table, with one proof about the definitions. Assumes nothing.
use mathlib.Core.Path.{◌≡◌, refl}
use Rattle.exports.specs.Cases.{answered, expected}

pub cases : answered ≡ expected
cases = refl
