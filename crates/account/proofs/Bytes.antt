-- Portions lent as bytes and cut between records: what they are answered, joined in any grouping. Assumes nothing.
use Prim.Native.Nat.{ℕ, ◌%◌, ◌≤◌}
use native.Mathlib.Omega.{arith}
use mathlib.Core.Path.{◌≡◌, refl, sym, ap, ap₂, ◌∙◌, subst}
use mathlib.Core.Bool.{true, false, ◌&&◌}
use mathlib.Core.List.{List, [], ◌∷◌, ◌++◌, map}
use borrow.Author.Tests.{eq-eqb, eqb-true, eqb-false, ltb-false, not-false}
use lib.ListN.{length, length-append}
use Rattle.std.specs.Prelude.{Result, Ok, Err, IsOk, is_ok, ⊤}
use Rattle.lists.specs.Refusals.{answered}
use Rattle.lists.proofs.Refusals.{none_of}
use Rattle.lists.specs.Words.{all, Every}
use Rattle.record.specs.Records.{record_count, records_of, is_whole}
use Rattle.record.specs.Vehicles.{kind_number, good, vehicle, vehicles, is_working}
use Rattle.record.specs.declared.vehicle.Vehicle.{Vehicle}
use Rattle.record.proofs.Records.{records_append}
use Rattle.record.proofs.Vehicles.{length_vehicles, vehicles_append}
use Rattle.lists.specs.Figures.{some}
use Rattle.account.specs.Accounts.{account_of}
use Rattle.account.specs.Ceilings.{within}
use Rattle.account.specs.Joining.{joining}
use Rattle.account.specs.Answers.{unless_refused}
use Rattle.account.specs.Portions.{portion_refusals, accounted, join_refusals, joined}
use Rattle.account.specs.Groupings.{GoodHauled, Portion, GoodPortion, Grouping, portion, pair, uncut, joined_answers, joined_bytes, BetweenRecords, NoneRefused}
use Rattle.account.specs.declared.Account.{Account}
use Rattle.account.specs.declared.Refusal.{Refusal}
use Rattle.lists.proofs.Lists.{both, all_append, neither, every_append}
use Rattle.account.proofs.Ceils.{test_within, figure_at_lem, portion_left, portion_right}
use Rattle.account.proofs.Joins.{each_hauled, joined_accounts}
use Rattle.account.proofs.Portions.{good_hauled, answer_0, hauled_not_working, none_working}

-- ---- a portion that is done is whole, few, good and hauled
pub record Sound (bs : List ℕ) : Type 0 where
  pub whole : length bs % 24 ≡ 0
  pub fine : all good (records_of bs) ≡ true
  pub hauled : Portion (vehicles bs)

-- an answer that is done has no refusal that applies
done_refuses : (r : Result ⊤ Refusal) (a : Account) → IsOk (unless_refused r a) → IsOk r
done_refuses (Ok done) a e = refl
done_refuses (Err refusal) a e = e

pub hauled_each : (rs : List (List ℕ)) → all good rs ≡ true → some is_working (map vehicle rs) ≡ false → Every GoodHauled (map vehicle rs)
unfolding all
hauled_each [] g w = tt
hauled_each (r ∷ rs) g w =
    let t = both (good r) (all good rs) g in
    let n = neither (is_working (vehicle r)) (some is_working (map vehicle rs)) w in
    (good_hauled r t.0 (eqb-false (kind_number (vehicle r).kind) 2 n.0), hauled_each rs t.1 n.1)

pub done_sound : (bs : List ℕ) → IsOk (accounted bs) → Sound bs
unfolding portion_refusals
done_sound bs e =
    let n = none_of (portion_refusals bs) (done_refuses (answered (portion_refusals bs)) (account_of (vehicles bs)) e) in
    let good = not-false (all good (records_of bs)) n.1.1.0 in
    record {
      whole = eqb-true (length bs % 24) 0 (not-false (is_whole bs) n.0);
      fine = good;
      hauled =
          record {
            each = hauled_each (records_of bs) good n.1.1.1.0;
            few = omega (arith, length_vehicles (record_count bs) bs, ltb-false 200 (record_count bs) n.1.0);
          };
    }

pub sound_done : (bs : List ℕ) → Sound bs → accounted bs ≡ Ok (account_of (vehicles bs))
sound_done bs s =
    let few : record_count bs ≤ 200 = omega (arith, s.hauled.few, length_vehicles (record_count bs) bs) in
    sym (answer_0 bs s.whole few s.fine (none_working (vehicles bs) s.hauled.each))

-- the same over the records alone
pub sound_good : (bs : List ℕ) → Sound bs → GoodPortion bs
sound_good bs s =
    record {
      whole = eq-eqb (length bs % 24) 0 s.whole;
      few = omega (arith, s.hauled.few, length_vehicles (record_count bs) bs);
      each = s.fine;
      hauled = each_hauled (vehicles bs) s.hauled.each;
    }

pub good_sound : (bs : List ℕ) → GoodPortion bs → Sound bs
good_sound bs g =
    record {
      whole = eqb-true (length bs % 24) 0 g.whole;
      fine = g.each;
      hauled =
          record {
            each = hauled_each (records_of bs) g.each (hauled_not_working (vehicles bs) g.hauled);
            few = omega (arith, g.few, length_vehicles (record_count bs) bs);
          };
    }

-- what is cut between records is whole
between : (g : Grouping ℕ) → BetweenRecords g → length (uncut g) % 24 ≡ 0
between (portion bs) c = eqb-true (length bs % 24) 0 c
between (pair left right) c = omega (arith, length-append (uncut left) (uncut right), between left c.0, between right c.1)

-- two accounts of lists that join are of at most 200 records
joined_few : (xs ys : List Vehicle) → IsOk (joined (account_of xs) (account_of ys)) → length (xs ++ ys) ≤ 200
unfolding join_refusals account_of joining
joined_few xs ys e =
    let n = none_of (join_refusals (account_of xs) (account_of ys)) (done_refuses (answered (join_refusals (account_of xs) (account_of ys))) (joining (account_of xs) (account_of ys)) e) in
    omega (arith, length-append xs ys, figure_at_lem (joining (account_of xs) (account_of ys)) (test_within (joining (account_of xs) (account_of ys)) (not-false (within (joining (account_of xs) (account_of ys))) n.1.0)) 0)

-- ---- two portions of a sound one
module _ (a b : List ℕ) (cut : length a % 24 ≡ 0) (s : Sound (a ++ b)) where
  both_portions : Portion (vehicles a ++ vehicles b)
  both_portions = subst Portion (vehicles_append a b cut) s.hauled

  both_fine : (all good (records_of a) ≡ true) × (all good (records_of b) ≡ true)
  both_fine =
      both (all good (records_of a)) (all good (records_of b))
      (sym (all_append good (records_of a) (records_of b)) ∙ ap (all good) (sym (records_append a b cut)) ∙ s.fine)

  sound_left : Sound a
  sound_left = record { whole = cut; fine = both_fine.0; hauled = portion_left (vehicles a) (vehicles b) both_portions }

  sound_right : Sound b
  sound_right =
      record {
        whole = omega (arith, s.whole, length-append a b);
        fine = both_fine.1;
        hauled = portion_right (vehicles a) (vehicles b) both_portions;
      }

-- ---- any grouping
sound_grouped : (g : Grouping ℕ) → BetweenRecords g → Sound (uncut g) → joined_bytes g ≡ accounted (uncut g)
sound_grouped (portion bs) c s = refl
sound_grouped (pair left right) c s =
    let a = uncut left in
    let b = uncut right in
    let cut = between left c.0 in
    let l = sound_left a b cut s in
    let r = sound_right a b cut s in
    ap₂ joined_answers (sound_grouped left c.0 l ∙ sound_done a l) (sound_grouped right c.1 r ∙ sound_done b r)
    ∙ joined_accounts (vehicles a) (vehicles b) (both_portions a b cut s)
    ∙ ap (λ (xs : List Vehicle). Ok (account_of xs)) (sym (vehicles_append a b cut))
    ∙ sym (sound_done (a ++ b) s)

pub bytes_grouped : (g : Grouping ℕ) → BetweenRecords g → IsOk (accounted (uncut g)) → joined_bytes g ≡ accounted (uncut g)
bytes_grouped g c e = sound_grouped g c (done_sound (uncut g) e)

-- ---- no call is refused
sound_unrefused : (g : Grouping ℕ) → BetweenRecords g → Sound (uncut g) → NoneRefused g
sound_unrefused (portion bs) c s = ap is_ok (sound_done bs s)
sound_unrefused (pair left right) c s =
    let a = uncut left in
    let b = uncut right in
    let cut = between left c.0 in (
      sound_unrefused left c.0 (sound_left a b cut s),
      sound_unrefused right c.1 (sound_right a b cut s),
      ap is_ok (sound_grouped (pair left right) c s ∙ sound_done (a ++ b) s),
    )

pub grouping_done : (g : Grouping ℕ) → BetweenRecords g → GoodPortion (uncut g) → NoneRefused g × (joined_bytes g ≡ Ok (account_of (vehicles (uncut g))))
grouping_done g c p =
    let s = good_sound (uncut g) p in
    (sound_unrefused g c s, sound_grouped g c s ∙ sound_done (uncut g) s)

-- ---- the same where no call was refused, whatever the cut
done_grouped : (g : Grouping ℕ) → NoneRefused g → Sound (uncut g) × (joined_bytes g ≡ Ok (account_of (vehicles (uncut g))))
done_grouped (portion bs) d = let s = done_sound bs d in (s, sound_done bs s)
done_grouped (pair left right) d =
    let a = uncut left in
    let b = uncut right in
    let l = done_grouped left d.0 in
    let r = done_grouped right d.1 in
    let accounts = ap₂ joined_answers l.1 r.1 in
    let few = joined_few (vehicles a) (vehicles b) (sym (ap is_ok accounts) ∙ d.2) in
    let together : Portion (vehicles a ++ vehicles b) = record { each = every_append GoodHauled (vehicles a) (vehicles b) l.0.hauled.each r.0.hauled.each; few = few } in
    let same = vehicles_append a b l.0.whole in (
      record {
        whole = omega (arith, l.0.whole, r.0.whole, length-append a b);
        fine = ap (all good) (records_append a b l.0.whole) ∙ all_append good (records_of a) (records_of b) ∙ ap₂ ◌&&◌ l.0.fine r.0.fine;
        hauled = subst Portion (sym same) together;
      },
      accounts ∙ joined_accounts (vehicles a) (vehicles b) together ∙ ap (λ (xs : List Vehicle). Ok (account_of xs)) (sym same),
    )

pub bytes_done : (g : Grouping ℕ) → NoneRefused g → joined_bytes g ≡ accounted (uncut g)
bytes_done g d = (done_grouped g d).1 ∙ sym (sound_done (uncut g) (done_grouped g d).0)
