-- Case A of document 01 from its own bytes, and each number of an answer, through the judging library's definitions. Assumes nothing.
use mathlib.Core.Path.{◌≡◌, refl}
use lib.ListN.{replicate}
use Rattle.lists.specs.Words.{all}
use Rattle.lists.specs.Numbers.{little_endian}
use Rattle.record.specs.Records.{records}
use Rattle.closing.specs.Closing.{closes}
use Rattle.record.specs.Vehicles.{good, vehicle}
use Rattle.margin.specs.Margin.{fourfold, margin_of}
use Rattle.order.specs.Orders.{good_order, order_of}
use Rattle.order.specs.declared.Book.TheVariants.{CrossBorder}
use Rattle.facts.specs.Facts.{facts_of}
use Rattle.categories.specs.Categories.{line_speed, speed_of, percentage_of}
use Rattle.categories.specs.Brakes.{margin_for, braked_of}
use Rattle.rules.specs.Rules.{terms_of}
use Rattle.rules.specs.Books.{broken_by}
use Rattle.rules.specs.CrossBorder.{cross_border}
use Rattle.books.specs.Books.{book_of}
use Rattle.rules.specs.Grants.{offer_of, granted_of, decision_of}
use Rattle.sheets.specs.Sheets.{sheet_length, figures_of, sheet_of}
use Rattle.sheets.specs.Cases.{train_a, order_a, sheet_a}
use Rattle.account.specs.Ceilings.{within}
use Rattle.judge.specs.Answers.{answer_number, answer_place, train_refusals, train_answer, train_sheet, account_refusals, sheet_for}
use Rattle.judge.specs.Cases.{answers, expected}

-- number 0, place 0, and the 32 bytes that document 01 prints
pub case_a : (answer_number (train_answer train_a order_a (sheet_length CrossBorder)) ≡ 0) × (answer_place (train_answer train_a order_a (sheet_length CrossBorder)) ≡ 0) × (train_sheet train_a order_a (replicate (sheet_length CrossBorder) 0) ≡ sheet_a)
unfolding train_refusals sheet_for all good closes good_order figures_of decision_of granted_of offer_of facts_of order_of vehicle records little_endian cross_border broken_by margin_for braked_of terms_of margin_of fourfold line_speed speed_of percentage_of sheet_of book_of
case_a = (refl, refl, refl)

-- each number from a train or an account for which it is given
pub answers_given : answers ≡ expected
unfolding train_refusals account_refusals within all good closes good_order order_of vehicle records little_endian
answers_given = refl
