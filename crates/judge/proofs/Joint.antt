-- Good working engines in front of a portion that has an account: with it they give what the uncut train gives, whatever is lent beside. Assumes nothing.
use Prim.Native.Nat.{ℕ, ◌+◌, ◌%◌, ◌≤◌}
use native.Mathlib.Omega.{arith}
use mathlib.Core.Path.{◌≡◌, refl, sym, ap, ap₂, ◌∙◌}
use mathlib.Core.Bool.{Bool, true, false, not, ◌&&◌, ◌||◌, cond}
use mathlib.Core.List.{List, ◌∷◌, ◌++◌}
use borrow.Author.Tests.{eq-eqb, ne_eqb, eqb-true}
use lib.Dec.{eqb, ltb}
use lib.ListN.{length, length-append}
use Rattle.std.specs.Prelude.{Err}
use Rattle.std.specs.Result.{result_and}
use Rattle.lists.specs.Words.{all, Every, Case}
use Rattle.lists.specs.Refusals.{answered}
use Rattle.lists.proofs.Refusals.{answered_append}
use Rattle.record.specs.Records.{record_count, records_of, is_whole}
use Rattle.record.specs.Vehicles.{good, vehicles, is_working}
use Rattle.record.proofs.Records.{records_append}
use Rattle.lists.proofs.Lists.{all_each, all_append}
use Rattle.lists.proofs.Figures.{none_first, all_first}
use Rattle.record.proofs.Vehicles.{length_vehicles, vehicles_append}
use Rattle.lists.specs.Figures.{some, first_is}
use Rattle.account.specs.Accounts.{account_of}
use Rattle.account.specs.Ceilings.{within}
use Rattle.account.specs.Groupings.{GoodPortion}
use Rattle.account.proofs.Demands.{portion_of, portion_within, hauled_not_working}
use Rattle.facts.specs.Engines.{GoodEngines}
use Rattle.facts.specs.Facts.{working_of, hauled_of, facts_of, facts_beside, Working}
use Rattle.facts.proofs.Demands.{working_is, hauled_is, facts_agree}
use Rattle.judge.specs.Answers.{refusal, size, train_around, account_around}
use Rattle.judge.specs.declared.Refusal.{Refusal}
use Rattle.judge.specs.declared.Refusal.TheVariants.{TooMany}

-- behind any cases, what answers the same
behind_same : (lent xs ys : List (Case Refusal)) → answered xs ≡ answered ys → answered (lent ++ xs) ≡ answered (lent ++ ys)
behind_same lent xs ys e = answered_append lent xs ∙ ap (result_and (answered lent)) e ∙ sym (answered_append lent ys)

module _ (engines hauled : List ℕ) (lent : List (Case Refusal)) (e : GoodEngines engines) (working : all is_working (vehicles engines) ≡ true) (s : GoodPortion hauled) where
  engines_whole : length engines % 24 ≡ 0
  engines_whole = eqb-true (length engines % 24) 0 e.whole

  hauled_whole : length hauled % 24 ≡ 0
  hauled_whole = eqb-true (length hauled % 24) 0 s.whole

  train : vehicles (engines ++ hauled) ≡ vehicles engines ++ vehicles hauled
  train = vehicles_append engines hauled engines_whole

  each_working : Every Working (vehicles engines)
  each_working = all_each is_working (vehicles engines) working

  none_behind : some is_working (vehicles hauled) ≡ false
  none_behind = hauled_not_working (vehicles hauled) s.hauled

  first_hauled : first_is is_working (vehicles hauled) ≡ false
  first_hauled = none_first is_working (vehicles hauled) none_behind

  -- each test of the two lists of refusals
  whole_some : (list : List ℕ) → length list % 24 ≡ 0 → 24 ≤ length list → (eqb (length list) 0 || not (is_whole list)) ≡ false
  whole_some list w l = ap₂ (λ (x y : Bool). x || not y) (ne_eqb (length list) 0 (λ z. omega arith)) (eq-eqb (length list % 24) 0 w)

  train_whole : (eqb (length (engines ++ hauled)) 0 || not (is_whole (engines ++ hauled))) ≡ false
  train_whole = whole_some (engines ++ hauled) (omega (arith, length-append engines hauled, engines_whole, hauled_whole)) (omega (arith, length-append engines hauled, e.some))

  train_count : record_count (engines ++ hauled) ≡ record_count engines + record_count hauled
  train_count = omega (arith, length-append engines hauled, engines_whole)

  train_fine : all good (records_of (engines ++ hauled)) ≡ true
  train_fine = ap (all good) (records_append engines hauled engines_whole) ∙ all_append good (records_of engines) (records_of hauled) ∙ ap₂ ◌&&◌ e.each s.each

  train_first : first_is is_working (vehicles (engines ++ hauled)) ≡ true
  train_first = ap (first_is is_working) train ∙ all_first is_working (vehicles engines) (vehicles hauled) (omega (arith, length_vehicles (record_count engines) engines, e.some)) working

  train_rest : hauled_of (vehicles (engines ++ hauled)) ≡ vehicles hauled
  train_rest = ap hauled_of train ∙ hauled_is (vehicles engines) (vehicles hauled) each_working first_hauled

  train_working : working_of (vehicles (engines ++ hauled)) ≡ vehicles engines
  train_working = ap working_of train ∙ working_is (vehicles engines) (vehicles hauled) each_working first_hauled

  account_count : (account_of (vehicles hauled)).count ≡ record_count hauled
  unfolding account_of
  account_count = length_vehicles (record_count hauled) hauled

  account_within : within (account_of (vehicles hauled)) ≡ true
  account_within = portion_within (vehicles hauled) (portion_of hauled s)

  -- what is left of both lists
  abbrev late : List (Case Refusal)
  late = size (record_count engines) (record_count hauled)

  left_of_lem : (xs : List (Case Refusal)) → answered xs ≡ answered late → cond (ltb 200 (record_count engines + record_count hauled)) (Err TooMany) (answered (lent ++ xs)) ≡ cond (ltb 200 (record_count engines + record_count hauled)) (Err TooMany) (answered (lent ++ late))
  left_of_lem xs e = ap (cond (ltb 200 (record_count engines + record_count hauled)) (Err TooMany)) (behind_same lent xs late e)

  abbrev left : List (Case Refusal)
  left =
      refusal TooMany (ltb 200 (record_count engines + record_count hauled))
      ∷ (lent ++ late)

  train_left : answered (train_around (engines ++ hauled) lent) ≡ answered left
  train_left =
      simp (train_whole, ap (ltb 200) train_count, train_fine, train_first, ap (some is_working) train_rest ∙ none_behind, ap length train_working ∙ length_vehicles (record_count engines) engines, ap length train_rest ∙ length_vehicles (record_count hauled) hauled) (left_of_lem _ refl)

  account_left : answered (account_around engines (account_of (vehicles hauled)) lent) ≡ answered left
  account_left =
      simp (whole_some engines engines_whole e.some, account_within, account_count, e.each, working, length_vehicles (record_count engines) engines) (left_of_lem _ refl)

  pub answers_same : answered (account_around engines (account_of (vehicles hauled)) lent) ≡ answered (train_around (engines ++ hauled) lent)
  answers_same = account_left ∙ sym train_left

  pub facts_joint : facts_beside (vehicles engines) (account_of (vehicles hauled)) ≡ facts_of (vehicles (engines ++ hauled))
  facts_joint = sym (facts_agree (vehicles engines) (vehicles hauled) each_working first_hauled) ∙ ap facts_of (sym train)
