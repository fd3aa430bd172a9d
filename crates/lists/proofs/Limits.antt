-- Numbers, figures of a list and tests, a table and a proof each about the definitions. Assumes nothing.
use mathlib.Core.Path.{◌≡◌, refl}
use Rattle.lists.specs.Numbers.{little_endian}
use Rattle.lists.specs.Limits.{numbers, numbers_read, figures, figures_given, few, few_given, tests, tests_given}

pub numbers_as_written : numbers ≡ numbers_read
unfolding little_endian
numbers_as_written = refl

pub figures_of_list : (figures ≡ figures_given) × (few ≡ few_given)
figures_of_list = (refl, refl)

pub limits : tests ≡ tests_given
limits = refl
