-- Demand 3, first half, and what else document 01 says of accounts: the theorems, over the definitions of specs/;
-- `joined_in_code` and `done_in_code` also over the two contracts themselves. Assumes nothing.
use Prim.Native.Nat.{ℕ, ◌%◌, ◌≤◌}
use native.Mathlib.Omega.{arith}
use mathlib.Core.Path.{◌≡◌, refl, sym, ap, ◌∙◌}
use mathlib.Core.Logic.{◌⊎◌}
use mathlib.Core.Bool.{Bool, true, false, cond}
use mathlib.Core.List.{List, [], ◌∷◌, ◌++◌, map, append-nil}
use borrow.Author.Tests.{eqb-true}
use lib.ListN.{length, get_or}
use Rattle.std.specs.Prelude.{Result, Ok, Err, IsOk, ⊤}
use Rattle.lists.specs.Words.{all, leading, Every, Case, case_at, First}
use Rattle.lists.specs.Refusals.{answered}
use Rattle.lists.specs.Figures.{some}
use Rattle.record.specs.Records.{record_count, records, records_of, is_whole}
use Rattle.record.specs.Vehicles.{good, vehicle, vehicles, first_bad, found_number, found_place, is_working, is_v}
use Rattle.record.specs.Mistyped.{Mistyped}
use Rattle.record.specs.declared.vehicle.Vehicle.{Vehicle}
use Rattle.lists.proofs.Cases.{first_or_none}
use Rattle.lists.proofs.Refusals.{first_refuses, none_refuses}
use Rattle.record.proofs.Demands.{found_number_lem, found_place_lem, mistyped_some, mistyped_place}
use Rattle.account.specs.Accounts.{account_of, empty, sums}
use Rattle.account.specs.Ceilings.{◌up_to◌, figures, within, Within}
use Rattle.account.specs.Joining.{joining}
use Rattle.account.specs.Answers.{Answer, refused_by, account_given, number_of, place_of, answer_number, answer_place, unless_refused}
use Rattle.account.specs.Portions.{portion_refusals, engine_or_bad, accounted, join_refusals, joined}
use Rattle.account.specs.Groupings.{Hauled, GoodHauled, Portion, GoodPortion, Grouping, uncut, joined_vehicles, joined_bytes, BetweenRecords, NoneRefused}
use Rattle.account.specs.declared.Account.{Account}
use Rattle.account.specs.declared.Refusal.{Refusal}
use Rattle.account.specs.declared.Refused.{Refused}
use Rattle.account.specs.declared.Refusal.TheVariants.{BadField}
use Rattle.account.proofs.Ceils as ceils
use Rattle.account.proofs.Ceils.{test_within, within_test, portion_ceilings}
use Rattle.account.proofs.Joins as joins
use Rattle.account.proofs.Joins.{account_append, grouped, exchanged, joined_accounts}
use Rattle.account.proofs.Portions as portions
use Rattle.account.proofs.Portions.{answer_3}
use Rattle.account.proofs.Bytes as bytes
use Rattle.account.proofs.Bytes.{done_sound, sound_done, sound_good, good_sound, bytes_grouped, bytes_done, grouping_done}
use Rattle.account.proofs.Runs.{Ran, ran_joined}

-- ---- answers
-- the numbers and the places of the refusals, in document 01's order
pub portion_numbers : (bs : List ℕ) → map (λ (r : Case Refusal). number_of r.gives) (portion_refusals bs) ≡ 1 ∷ 2 ∷ 3 ∷ 6 ∷ []
unfolding portion_refusals
portion_numbers bs = refl

pub portion_places : (bs : List ℕ) → map (λ (r : Case Refusal). place_of r.gives) (portion_refusals bs) ≡ 0 ∷ 0 ∷ leading good (records_of bs) ∷ 0 ∷ []
unfolding portion_refusals
portion_places bs = refl

pub join_numbers : (left right : Account) → map (λ (r : Case Refusal). number_of r.gives) (join_refusals left right) ≡ 7 ∷ 2 ∷ []
unfolding join_refusals
join_numbers left right = refl

pub join_places : (left right : Account) → map (λ (r : Case Refusal). place_of r.gives) (join_refusals left right) ≡ 0 ∷ 0 ∷ []
unfolding join_refusals
join_places left right = refl

-- a refusal returns the empty account, of a portion and of joining
with_empty : (r : Result ⊤ Refusal) (a : Account) (refused : Refused) → unless_refused r a ≡ Err refused → refused.account ≡ empty
with_empty (Ok done) a refused e = absurd cc
with_empty (Err refusal) a refused e = sym (ap account_given e)

pub refused_gives_empty : (bs : List ℕ) (refused : Refused) → accounted bs ≡ Err refused → refused.account ≡ empty
refused_gives_empty bs = with_empty (answered (portion_refusals bs)) (account_of (vehicles bs))

pub refused_join_gives_empty : (left right : Account) (refused : Refused) → joined left right ≡ Err refused → refused.account ≡ empty
refused_join_gives_empty left right = with_empty (answered (join_refusals left right)) (joining left right)

-- each is given when it applies and no earlier one does, and none when none applies; other stands for no case at all
pub answered_in_order : (other : Refusal) (rs : List (Case Refusal)) (f : First other rs) → answered rs ≡ Err (case_at other rs f.place).gives
answered_in_order other rs f = first_refuses other rs f.place f.within f.applies f.earlier

-- and there always is one that does so, or none applies
pub first_or_done : (other : Refusal) (rs : List (Case Refusal)) → First other rs ⊎ Every (λ r. r.applies ≡ false) rs
first_or_done = first_or_none

pub done_when_none_applies : (rs : List (Case Refusal)) → Every (λ r. r.applies ≡ false) rs → answered rs ≡ Ok tt
done_when_none_applies = none_refuses

-- refusal 3 has the number and the place of what the scan for it finds
pub refused_as_found : (bs : List ℕ) → is_whole bs ≡ true → record_count bs ≤ 200 → all good (records_of bs) ≡ false
    → (answer_number (accounted bs) ≡ found_number (first_bad (records_of bs))) × (answer_place (accounted bs) ≡ found_place (first_bad (records_of bs)))
refused_as_found bs whole few bad =
    let a = sym (answer_3 bs (eqb-true (length bs % 24) 0 whole) few (leading good (records_of bs)) (bad, refl)) in (
      ap answer_number a ∙ sym (found_number_lem (records_of bs) ∙ ap (λ (b : Bool). cond b 0 3) bad),
      ap answer_place a ∙ sym (found_place_lem (records_of bs) ∙ ap (λ (b : Bool). cond b 0 (leading good (records_of bs))) bad),
    )

-- ---- one portion
-- it is done exactly when it is whole records, at most 200, each good, each hauled; and then it has the account of its vehicles
pub portion_done_exactly : (bs : List ℕ) → (IsOk (accounted bs) → GoodPortion bs) × (GoodPortion bs → accounted bs ≡ Ok (account_of (vehicles bs)))
portion_done_exactly bs = (λ done. sound_good bs (done_sound bs done), λ g. sound_done bs (good_sound bs g))

-- request Two: with one digit of one number mistyped it is refused by 3, at that record's place, with the empty account
pub portion_mistyped : (bs other : List ℕ) (i : ℕ) → is_whole bs ≡ true → record_count bs ≤ 200 → all good (records_of bs) ≡ true → Mistyped bs other i → accounted other ≡ Err (refused_by (BadField i))
portion_mistyped bs other i whole few g m =
    sym (answer_3 other (omega (arith, eqb-true (length bs % 24) 0 whole, m.long)) (omega (arith, few, m.long)) i (mistyped_some bs other i m g, mistyped_place bs other i m g))

-- its vehicles are at most 200 good hauled ones
pub portion_of : (bs : List ℕ) → GoodPortion bs → Portion (vehicles bs)
portion_of bs g = (good_sound bs g).hauled

-- good records of which none is a working engine are hauled, and no hauled one is a working engine
pub hauled_each : (rs : List (List ℕ)) → all good rs ≡ true → some is_working (map vehicle rs) ≡ false → Every GoodHauled (map vehicle rs)
hauled_each = bytes.hauled_each

pub hauled_not_working : (hauled : List Vehicle) → Every Hauled hauled → some is_working hauled ≡ false
hauled_not_working = portions.hauled_not_working

-- of at most 200 whole records: 6 or, before it, 3 where there is a working engine; done where all are good and none works
module _ (bs : List ℕ) (whole : length bs % 24 ≡ 0) (few : record_count bs ≤ 200) where
  pub answer_6 : some is_working (vehicles bs) ≡ true → Err (refused_by (engine_or_bad (records_of bs))) ≡ accounted bs
  answer_6 = portions.answer_6 bs whole few

  pub answer_0 : all good (records_of bs) ≡ true → some is_working (vehicles bs) ≡ false → Ok (account_of (vehicles bs)) ≡ accounted bs
  answer_0 = portions.answer_0 bs whole few

-- ---- the ceilings
-- the test holds exactly of the accounts within their ceilings
pub within_exactly : (a : Account) → (within a ≡ true → Within a) × (Within a → within a ≡ true)
within_exactly a = (test_within a, within_test a)

-- a figure of such an account is at most its ceiling
pub figure_at_lem : (a : Account) → Within a → (k : ℕ) → (get_or (figures a) k (0 up_to 0)).figure ≤ (get_or (figures a) k (0 up_to 0)).ceiling
figure_at_lem = ceils.figure_at_lem

-- ---- cutting and joining
-- the account of a list that is cut in two is its parts' accounts, joined
pub account_of_append : (front back : List Vehicle) → Every Hauled front → account_of (front ++ back) ≡ joining (account_of front) (account_of back)
account_of_append = account_append

-- at most 200 good hauled records are within the ceilings
pub within_ceilings : (hauled : List Vehicle) → Portion hauled → Within (account_of hauled)
within_ceilings = portion_ceilings

pub portion_within : (hauled : List Vehicle) → Portion hauled → within (account_of hauled) ≡ true
portion_within = joins.portion_within

-- so joining two portions of them is never refused
pub never_refused : (front back : List Vehicle) → Portion (front ++ back) → joined (account_of front) (account_of back) ≡ Ok (account_of (front ++ back))
never_refused = joined_accounts

-- an empty portion is good, and changes nothing, in front or behind
pub empty_portion : accounted [] ≡ Ok empty
unfolding portion_refusals all records account_of
empty_portion = refl

pub empty_portion_in_front : (hauled : List Vehicle) → Portion hauled → joined empty (account_of hauled) ≡ Ok (account_of hauled)
empty_portion_in_front hauled h = joined_accounts [] hauled h

pub empty_portion_behind : (hauled : List Vehicle) → Portion hauled → joined (account_of hauled) empty ≡ Ok (account_of hauled)
empty_portion_behind hauled h =
    joined_accounts hauled [] (rw append-nil h) ∙ ap (λ (xs : List Vehicle). Ok (account_of xs)) (append-nil hauled)

-- the accounts of the portions, joined in any grouping of neighbours, are the account of the uncut list
pub any_grouping : (g : Grouping Vehicle) → Portion (uncut g) → joined_vehicles g ≡ Ok (account_of (uncut g))
any_grouping = grouped

-- the same of portions lent as bytes, cut anywhere between records, where the uncut bytes are answered done
pub any_grouping_of_bytes : (g : Grouping ℕ) → BetweenRecords g → IsOk (accounted (uncut g)) → joined_bytes g ≡ accounted (uncut g)
any_grouping_of_bytes = bytes_grouped

-- the same whatever the cut and the bytes, where no call was refused
pub any_grouping_not_refused : (g : Grouping ℕ) → NoneRefused g → joined_bytes g ≡ accounted (uncut g)
any_grouping_not_refused = bytes_done

-- good hauled records, at most 200 in all, cut anywhere between records: no portion and no joining is refused, in any grouping, and the account is the uncut list's
pub any_grouping_done : (g : Grouping ℕ) → BetweenRecords g → GoodPortion (uncut g) → NoneRefused g × (joined_bytes g ≡ Ok (account_of (vehicles (uncut g))))
any_grouping_done = grouping_done

-- what the code gives, known by its contracts alone, is the account of the uncut bytes
pub joined_in_code : (g : Grouping ℕ) (r : Answer) → Ran g r → BetweenRecords g → IsOk (accounted (uncut g)) → r ≡ accounted (uncut g)
joined_in_code g r ran cut done = ran_joined ran ∙ bytes_grouped g cut done

pub done_in_code : (g : Grouping ℕ) (r : Answer) → Ran g r → BetweenRecords g → GoodPortion (uncut g) → r ≡ Ok (account_of (vehicles (uncut g)))
done_in_code g r ran cut good = ran_joined ran ∙ (grouping_done g cut good).1

-- the length set to V is at most the whole, of every list
pub v_length_most : (hauled : List Vehicle) → (account_of hauled).vlength ≤ (account_of hauled).length
v_length_most = joins.v_length_le

-- and vehicles of which none is set to V, put in anywhere, leave it as it was
pub v_length_kept : (front others back : List Vehicle) → some is_v others ≡ false → (account_of (front ++ (others ++ back))).vlength ≡ (account_of (front ++ back)).vlength
v_length_kept = joins.v_length_kept

-- exchanging two neighbours leaves every sum as it was
pub exchange_keeps_sums : (front back : List Vehicle) (v w : Vehicle)
    → sums (account_of (front ++ (v ∷ w ∷ back))) ≡ sums (account_of (front ++ (w ∷ v ∷ back)))
exchange_keeps_sums = exchanged
