-- Each figure at its limit and one above, in a single table, with one proof about the definitions. Assumes nothing.
use mathlib.Core.Path.{◌≡◌, refl}
use Rattle.margin.specs.Margin.{fourfold, margin_of}
use Rattle.categories.specs.Categories.{line_speed, percentage_of}
use Rattle.categories.specs.Brakes.{margin_for}
use Rattle.rules.specs.Rules.{terms_of}
use Rattle.rules.specs.Books.{broken_by}
use Rattle.rules.specs.CrossBorder.{cross_border}
use Rattle.rules.specs.Limits.{at_limits, expected}

pub limits : at_limits ≡ expected
unfolding cross_border broken_by terms_of line_speed margin_for margin_of fourfold percentage_of
limits = refl
