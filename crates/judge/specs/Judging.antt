-- Words in which judging's functions promise something to each other and to a route.
use Rattle.std.specs.Prelude.{ℕ, ◌%◌, ◌≤◌, ◌≡◌, true, List, length, Result, Ok, ⊤}
use Rattle.std.specs.Result.{result_and}
use Rattle.lists.specs.Words.{all}
use Rattle.lists.specs.Refusals.{answered}
use Rattle.record.specs.Records.{record_count, records_of}
use Rattle.record.specs.Vehicles.{good, vehicles}
use Rattle.account.specs.declared.Account.{Account}
use Rattle.facts.specs.Facts.{facts_of, facts_beside}
use Rattle.facts.specs.declared.Facts.{Facts}
use Rattle.judge.specs.Answers.{record_refusals, train_shape, engine_refusals, engine_shape}
use Rattle.judge.specs.declared.Refusal.{Refusal}

-- a train as it goes to be judged, beside what was answered of things lent: its facts, or the first refusal
unfoldable pub train_judged : List ℕ → Result ⊤ Refusal → Result Facts Refusal
train_judged bs lent = result_and (answered (record_refusals bs)) (result_and lent (result_and (answered (train_shape (vehicles bs))) (Ok (facts_of (vehicles bs)))))

unfoldable pub account_judged : List ℕ → Account → Result ⊤ Refusal → Result Facts Refusal
account_judged bs hauled lent =
    result_and (answered (engine_refusals bs hauled)) (result_and lent (result_and (answered (engine_shape (vehicles bs) hauled)) (Ok (facts_beside (vehicles bs) hauled))))

-- at most 200 whole good records
pub record GoodRecords (bs : List ℕ) : Type 0 where
  pub whole : length bs % 24 ≡ 0
  pub few : record_count bs ≤ 200
  pub each : all good (records_of bs) ≡ true
