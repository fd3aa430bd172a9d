-- Cases A to H of document 01 in a single table, with one proof about the definitions. Assumes nothing.
use mathlib.Core.Path.{◌≡◌, refl}
use Rattle.lists.specs.Numbers.{little_endian}
use Rattle.record.specs.Records.{records}
use Rattle.record.specs.Vehicles.{vehicle}
use Rattle.margin.specs.Margin.{fourfold, margin_of}
use Rattle.facts.specs.Facts.{facts_of}
use Rattle.order.specs.Orders.{order_of}
use Rattle.categories.specs.Categories.{line_speed, speed_of, percentage_of}
use Rattle.categories.specs.Brakes.{margin_for, braked_of}
use Rattle.rules.specs.Rules.{terms_of}
use Rattle.rules.specs.Books.{broken_by}
use Rattle.rules.specs.CrossBorder.{cross_border}
use Rattle.rules.specs.Grants.{offer_of, granted_of, decision_of}
use Rattle.sheets.specs.Sheets.{figures_of, sheet_of}
use Rattle.sheets.specs.Cases.{shown, expected}

pub cases : shown ≡ expected
unfolding sheet_of figures_of decision_of granted_of offer_of facts_of order_of vehicle records little_endian cross_border broken_by margin_for braked_of terms_of margin_of fourfold line_speed speed_of percentage_of
cases = refl
