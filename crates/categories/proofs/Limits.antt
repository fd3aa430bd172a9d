-- k, what M counts, p and a category's speed, each at its limits and one above, in three short tables, with one proof about the definitions. Assumes nothing.
use mathlib.Core.Path.{◌≡◌, refl}
use Rattle.margin.specs.Margin.{fourfold}
use Rattle.categories.specs.Categories.{line_speed, speed_of, percentage_of}
use Rattle.categories.specs.Brakes.{braked_of}
use Rattle.categories.specs.Limits.{at_limits, expected, by_length, expected_by_length, on_line, expected_on_line}

pub limits : (at_limits ≡ expected) × (by_length ≡ expected_by_length) × (on_line ≡ expected_on_line)
unfolding braked_of fourfold line_speed speed_of percentage_of
limits = (refl, refl, refl)
