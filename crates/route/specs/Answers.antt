-- Request One: what a route is answered, the category that it gives and the bytes that it leaves.
use Rattle.std.specs.Prelude.{ℕ, Bool, not, ◌||◌, List, [], ◌∷◌, length, Result, Ok, ⊤}
use Rattle.std.specs.Result.{result_and}
use Rattle.lists.specs.Words.{◌is◌, ◌above◌, all, Case}
use Rattle.lists.specs.Refusals.{answered}
use Rattle.record.specs.Records.{record_count, records_of, is_whole}
use Rattle.record.specs.Vehicles.{vehicles}
use Rattle.account.specs.declared.Account.{Account}
use Rattle.facts.specs.Facts.{facts_of, facts_beside}
use Rattle.facts.specs.declared.Facts.{Facts}
use Rattle.rules.specs.Books.{RuleBook}
use Rattle.rules.specs.Grants.{granted_number}
use Rattle.order.specs.declared.Order.{Order}
use Rattle.books.specs.Books.{book_of}
use Rattle.sections.specs.Routes.{book_on, granted_on, speeds_on}
use Rattle.sections.specs.Sections.{sections_of, asked_in, book_named_in, good_section, leading_good}
use Rattle.judge.specs.Answers.{refusal, train_around, account_around, written}
use Rattle.judge.specs.declared.Refusal.{Refusal}
use Rattle.judge.specs.declared.Refusal.TheVariants.{BadOrder, ShortSheet}

-- orders that are not whole records, no section or more than 64
abbrev pub no_route : List ℕ → Bool
no_route orders = not (is_whole orders) || record_count orders is 0 || record_count orders above 64

-- of the orders and the bytes lent
abbrev pub section_refusals : List ℕ → ℕ → List (Case Refusal)
section_refusals orders room =
    -- 4, with place 0
    refusal (BadOrder 0) (no_route orders)
    -- 4: the first section with a field out of range, or an asked category or a book other than the first section's, counted from 0
    ∷ refusal (BadOrder (leading_good orders)) (not (all (good_section (asked_in orders) (book_named_in orders)) (records_of orders)))
    -- 5: fewer bytes lent than sections
    ∷ refusal ShortSheet (record_count orders above room)
    ∷ []

-- for a route: 1, 2, 3, 4, 4, 5, 11, 12, 13, 14, and 1, 7, 2, 3, 4, 4, 5, 11, 13, 14
unfoldable pub train_refusals : List ℕ → List ℕ → ℕ → List (Case Refusal)
train_refusals bs orders room = train_around bs (section_refusals orders room)

unfoldable pub account_refusals : List ℕ → Account → List ℕ → ℕ → List (Case Refusal)
account_refusals bs hauled orders room = account_around bs hauled (section_refusals orders room)

-- the book that the sections name, as the first does
abbrev pub book_for : List Order → RuleBook
book_for os = book_of (book_on os)

-- the category granted on all sections, or 0; and one byte a section, its speed in that category
unfoldable pub granted_for : Facts → List ℕ → ℕ
granted_for f orders = granted_number (granted_on (book_for (sections_of orders)) f (sections_of orders))

unfoldable pub speeds_for : Facts → List ℕ → List ℕ
speeds_for f orders = speeds_on (book_for (sections_of orders)) (granted_for f orders) f (sections_of orders)

-- a refusal gives no category
abbrev pub route_by : Result ⊤ Refusal → ℕ → Result ℕ Refusal
route_by answer granted = result_and answer (Ok granted)

abbrev pub train_answer : List ℕ → List ℕ → ℕ → Result ⊤ Refusal
train_answer bs orders room = answered (train_refusals bs orders room)

abbrev pub train_route : List ℕ → List ℕ → ℕ → Result ℕ Refusal
train_route bs orders room = route_by (train_answer bs orders room) (granted_for (facts_of (vehicles bs)) orders)

abbrev pub train_speeds : List ℕ → List ℕ → List ℕ → List ℕ
train_speeds bs orders speeds = written (train_answer bs orders (length speeds)) (speeds_for (facts_of (vehicles bs)) orders) speeds

abbrev pub account_answer : List ℕ → Account → List ℕ → ℕ → Result ⊤ Refusal
account_answer bs hauled orders room = answered (account_refusals bs hauled orders room)

abbrev pub account_route : List ℕ → Account → List ℕ → ℕ → Result ℕ Refusal
account_route bs hauled orders room = route_by (account_answer bs hauled orders room) (granted_for (facts_beside (vehicles bs) hauled) orders)

abbrev pub account_speeds : List ℕ → Account → List ℕ → List ℕ → List ℕ
account_speeds bs hauled orders speeds =
    written (account_answer bs hauled orders (length speeds)) (speeds_for (facts_beside (vehicles bs) hauled) orders) speeds
