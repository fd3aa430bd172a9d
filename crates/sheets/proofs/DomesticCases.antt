-- The worked cases of the domestic book in a single table, with one proof about the definitions. Assumes nothing.
use mathlib.Core.Path.{◌≡◌, refl}
use Rattle.lists.specs.Words.{all}
use Rattle.margin.specs.Margin.{fourfold, margin_of}
use Rattle.facts.specs.Facts.{facts_of}
use Rattle.categories.specs.Categories.{line_speed, speed_of, percentage_of}
use Rattle.categories.specs.Brakes.{margin_for, braked_of}
use Rattle.rules.specs.Books.{broken_by}
use Rattle.rules.specs.Grants.{offer_of, granted_of, decision_of}
use Rattle.domestic.specs.Rules.{terms_of, domestic}
use Rattle.sheets.specs.Sheets.{figures_of, sheet_of}
use Rattle.sheets.specs.DomesticCases.{shown, expected, whole_sheets, expected_sheets}

pub cases : (shown ≡ expected) × (whole_sheets ≡ expected_sheets)
unfolding sheet_of figures_of decision_of granted_of offer_of facts_of all domestic broken_by margin_for braked_of terms_of margin_of fourfold line_speed speed_of percentage_of
cases = (refl, refl)
