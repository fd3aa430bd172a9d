-- The marks and figures of small trains in both readings, in two tables, with one proof each about the definitions. Assumes nothing.
use mathlib.Core.Path.{◌≡◌, refl}
use Rattle.lists.specs.Words.{all}
use Rattle.account.specs.Accounts.{account_of}
use Rattle.facts.specs.Engines.{engines_of}
use Rattle.facts.specs.Facts.{facts_of, beside_of}
use Rattle.facts.specs.Cases as told

pub marks : told.marks ≡ told.expected_marks
unfolding facts_of beside_of engines_of account_of all
marks = refl

pub figures : told.figures ≡ told.expected_figures
unfolding facts_of beside_of engines_of account_of
figures = refl
