-- The account held to the page: its ceilings, accounts of lists, their marks, joining and answers, a table and a proof each. Assumes nothing.
use mathlib.Core.Path.{◌≡◌, refl}
use mathlib.Core.List.{map}
use Rattle.lists.specs.Words.{all}
use Rattle.lists.specs.Numbers.{little_endian}
use Rattle.closing.specs.Closing.{closes}
use Rattle.record.specs.Records.{records}
use Rattle.record.specs.Vehicles.{good, vehicle}
use Rattle.account.specs.Accounts.{account_of}
use Rattle.account.specs.Ceilings.{within}
use Rattle.account.specs.Joining.{joining}
use Rattle.account.specs.Portions.{portion_refusals, join_refusals}
use Rattle.account.specs.Limits.{at_limits, expected, lists, accounts, marks, marked, together, joined_figures, runs, runs_joined, behinds, behinds_joined, fives, fives_joined, refused_accounts, refusals_with_none, answers, answered}

pub limits : at_limits ≡ expected
unfolding within all
limits = refl

pub figures_of_lists : map account_of lists ≡ accounts
unfolding account_of
figures_of_lists = refl

pub marks_of_lists : marks ≡ marked
unfolding account_of
marks_of_lists = refl

-- of accounts that no list has
pub figures_joined : together ≡ joined_figures
unfolding joining
figures_joined = refl

pub runs_joined_lem : runs ≡ runs_joined
unfolding joining
runs_joined_lem = refl

pub behind_joined : behinds ≡ behinds_joined
unfolding joining
behind_joined = refl

pub five_joined : fives ≡ fives_joined
unfolding joining
five_joined = refl

pub answers_given : answers ≡ answered
unfolding portion_refusals join_refusals joining within all records good vehicle little_endian closes
answers_given = refl

pub empty_on_refusal : refused_accounts ≡ refusals_with_none
unfolding portion_refusals join_refusals joining account_of within all records good vehicle little_endian closes
empty_on_refusal = refl
