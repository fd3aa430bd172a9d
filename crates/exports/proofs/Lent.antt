-- Laws of what is answered and lent: a number is small, and a place is that of one of 200 records or 64 sections. Assumes nothing.
use Rattle.std.proofs.Common.{ℕ, ◌+◌, ◌≤◌, ◌<◌, ◌≡◌, ◌⊎◌, inr, refl, ap, ◌∙◌, Bool, true, false, not, ◌||◌, cond, List, [], ◌∷◌, ◌++◌, length, drop, arith, Result, Ok, Err}
use Rattle.std.specs.Prelude.{⊤}
use Rattle.std.specs.Result.{result_and}
use mathlib.Core.Logic.{⊎_elim}
use borrow.Author.Tests.{ltb-false, lt-ltb, le-ltb}
use Rattle.lists.specs.Words.{◌is◌, ◌above◌, all, leading, Every, Case}
use Rattle.lists.specs.Refusals.{answered}
use Rattle.lists.specs.Figures.{some}
use Rattle.lists.proofs.Figures.{leading_le}
use Rattle.lists.proofs.Lists.{neither}
use Rattle.record.specs.Records.{record_count, records_of, is_whole}
use Rattle.record.specs.Vehicles.{good, vehicles, is_working}
use Rattle.record.proofs.Records.{length_records}
use Rattle.account.specs.Ceilings.{within}
use Rattle.account.specs.Answers as account
use Rattle.account.specs.Answers.{refused_place, unless_refused}
use Rattle.account.specs.Portions.{portion_refusals, accounted, join_refusals, joined}
use Rattle.account.specs.declared.Account.{Account}
use Rattle.account.specs.declared.Refusal.{Refusal as Unaccounted}
use Rattle.account.specs.declared.Refusal.TheVariants as account-case
use Rattle.sections.specs.Sections.{asked_in, book_named_in, good_section, leading_good}
use Rattle.speed.specs.Speed.{holds_the_speed}
use Rattle.speed.proofs.Demands.{vehicle_or_none}
use Rattle.judge.specs.Answers.{number_of, place_of, answer_number, train_around, train_refusals, train_answer, account_around, account_refusals, account_answer, order_refusals, train_shape, engine_shape}
use Rattle.judge.specs.declared.Refusal.{Refusal}
use Rattle.judge.specs.declared.Refusal.TheVariants.{NotWhole, TooMany, BadField, BadOrder, ShortSheet, AboveCeiling, NotWorking, WorkingBehind, ManyEngines, NothingHauled}
use Rattle.route.specs.Answers as route
use Rattle.route.specs.Answers.{no_route, section_refusals, train_route, account_route}
use Rattle.exports.specs.Lent.{IsPlaced, lent_vehicle}

number_small : (refusal : Refusal) → number_of refusal ≤ 14
number_small NotWhole = omega arith
number_small TooMany = omega arith
number_small (BadField place) = omega arith
number_small (BadOrder place) = omega arith
number_small ShortSheet = omega arith
number_small AboveCeiling = omega arith
number_small NotWorking = omega arith
number_small WorkingBehind = omega arith
number_small ManyEngines = omega arith
number_small NothingHauled = omega arith

pub answer_small : {T : Type 0} (answer : Result T Refusal) → answer_number answer ≤ 14
answer_small (Ok x) = omega arith
answer_small (Err refusal) = number_small refusal

-- a refused account is not number 0
pub account_refused : (refusal : Unaccounted) → account.number_of refusal ≡ 0 → ⊥
account_refused account-case.NotWhole e = omega arith
account_refused account-case.TooMany e = omega arith
account_refused (account-case.BadField place) e = omega arith
account_refused account-case.WorkingEngine e = omega arith
account_refused account-case.AboveCeiling e = omega arith

place_in : (bs : List ℕ) → leading good (records_of bs) ≤ record_count bs
place_in bs = omega (arith, leading_le good (records_of bs), length_records (record_count bs) bs)

-- the place of a refusal, of either library
module _ {E : Type 0} (place : E → ℕ) where
  either : {T : Type 0} (b : Bool) (refused : E) (other : Result T E) → place refused ≤ 200 → IsPlaced place other → IsPlaced place (cond b (Err refused) other)
  either true refused other h k = h
  either false refused other h k = k

  each_placed : (cs : List (Case E)) → Every (λ c. place c.gives ≤ 200) cs → IsPlaced place (answered cs)
  each_placed [] h = tt
  each_placed (c ∷ cs) h = either c.applies c.gives (answered cs) h.0 (each_placed cs h.1)

  and_placed : {T : Type 0} (r : Result ⊤ E) (value : T) → IsPlaced place r → IsPlaced place (result_and r (Ok value))
  and_placed (Ok x) value h = tt
  and_placed (Err e) value h = h

  -- 2 is asked before 3
  many_or_bad : (bs : List ℕ) (n : ℕ) (tooMany bad_field : E) (bad : Bool) (rest : Result ⊤ E) → record_count bs ≤ n → place tooMany ≤ 200 → place bad_field ≡ leading good (records_of bs)
      → IsPlaced place rest → IsPlaced place (cond (n above 200) (Err tooMany) (cond bad (Err bad_field) rest))
  many_or_bad bs n tooMany bad_field bad rest few h b k = go (n above 200) refl
    where
      go : (many : Bool) → (n above 200) ≡ many → IsPlaced place (cond many (Err tooMany) (cond bad (Err bad_field) rest))
      go true e = h
      go false e = either bad bad_field rest (omega (arith, b, place_in bs, few, ltb-false 200 n e)) k

-- whatever is lent beside a train, or beside engines with an account
around_train : (bs : List ℕ) (lent : List (Case Refusal)) → IsPlaced place_of (answered (lent ++ train_shape (vehicles bs))) → IsPlaced place_of (answered (train_around bs lent))
around_train bs lent h =
    either place_of (length bs is 0 || not (is_whole bs)) NotWhole _ (omega arith)
    (many_or_bad place_of bs (record_count bs) TooMany (BadField (leading good (records_of bs))) (not (all good (records_of bs))) _ (omega arith) (omega arith) refl h)

around_account : (bs : List ℕ) (hauled : Account) (lent : List (Case Refusal)) → IsPlaced place_of (answered (lent ++ engine_shape (vehicles bs) hauled)) → IsPlaced place_of (answered (account_around bs hauled lent))
around_account bs hauled lent h =
    either place_of (length bs is 0 || not (is_whole bs)) NotWhole _ (omega arith)
    (either place_of (not (within hauled)) AboveCeiling _ (omega arith)
    (many_or_bad place_of bs (record_count bs + hauled.count) TooMany (BadField (leading good (records_of bs))) (not (all good (records_of bs))) _ (omega arith) (omega arith) refl h))

pub train_placed : (bs order : List ℕ) (room : ℕ) → IsPlaced place_of (train_answer bs order room)
unfolding train_refusals
train_placed bs order room = around_train bs (order_refusals order room) (each_placed place_of (order_refusals order room ++ train_shape (vehicles bs)) (omega arith))

pub account_placed : (bs : List ℕ) (hauled : Account) (order : List ℕ) (room : ℕ) → IsPlaced place_of (account_answer bs hauled order room)
unfolding account_refusals
account_placed bs hauled order room = around_account bs hauled (order_refusals order room) (each_placed place_of (order_refusals order room ++ engine_shape (vehicles bs) hauled) (omega arith))

-- on a route more than 64 sections are refused before the place of one is given
section_in : (orders : List ℕ) → leading_good orders ≤ record_count orders
section_in orders = omega (arith, leading_le (good_section (asked_in orders) (book_named_in orders)) (records_of orders), length_records (record_count orders) orders)

few_sections : (orders : List ℕ) → no_route orders ≡ false → record_count orders ≤ 64
few_sections orders e = ltb-false 64 (record_count orders) (neither (not (is_whole orders) || record_count orders is 0) (record_count orders above 64) e).1

sections_placed : (orders : List ℕ) (room : ℕ) (behind : List (Case Refusal)) → Every (λ c. place_of c.gives ≤ 200) behind → IsPlaced place_of (answered (section_refusals orders room ++ behind))
sections_placed orders room behind h = go (no_route orders) refl
  where
    rest : List (Case Refusal)
    rest = drop 1 (section_refusals orders room) ++ behind

    go : (b : Bool) → no_route orders ≡ b → IsPlaced place_of (cond b (Err (BadOrder 0)) (answered rest))
    go true e = omega arith
    go false e = each_placed place_of rest (omega (arith, section_in orders, few_sections orders e), (omega arith, h))

pub train_route_placed : (bs orders : List ℕ) (room : ℕ) → IsPlaced place_of (train_route bs orders room)
unfolding route.train_refusals
train_route_placed bs orders room = and_placed place_of _ _ (around_train bs (section_refusals orders room) (sections_placed orders room (train_shape (vehicles bs)) (omega arith)))

pub account_route_placed : (bs : List ℕ) (hauled : Account) (orders : List ℕ) (room : ℕ) → IsPlaced place_of (account_route bs hauled orders room)
unfolding route.account_refusals
account_route_placed bs hauled orders room = and_placed place_of _ _ (around_account bs hauled (section_refusals orders room) (sections_placed orders room (engine_shape (vehicles bs) hauled) (omega arith)))

-- an account that is lent
unless_placed : (r : Result ⊤ Unaccounted) (a : Account) → IsPlaced account.place_of r → IsPlaced refused_place (unless_refused r a)
unless_placed (Ok x) a h = tt
unless_placed (Err refusal) a h = h

pub portion_placed : (bs : List ℕ) → IsPlaced refused_place (accounted bs)
unfolding portion_refusals
portion_placed bs =
    unless_placed _ _
    (either account.place_of (not (is_whole bs)) account-case.NotWhole _ (omega arith)
    (many_or_bad account.place_of bs (record_count bs) account-case.TooMany (account-case.BadField (leading good (records_of bs))) (not (all good (records_of bs))) _ (omega arith) (omega arith) refl
    (either account.place_of (some is_working (vehicles bs)) account-case.WorkingEngine (Ok tt) (omega arith) tt)))

pub join_placed : (left right : Account) → IsPlaced refused_place (joined left right)
unfolding join_refusals
join_placed left right = unless_placed _ _ (each_placed account.place_of (join_refusals left right) (omega arith, (omega arith, tt)))

-- ---- the vehicle that is lent
-- all of one list over the front of another
pub copied : (to : List ℕ) {from want : List ℕ} → from ≡ want → from ++ drop (length from) to ≡ want ++ drop (length want) to
copied to e = ap (λ (l : List ℕ). l ++ drop (length l) to) e

pub vehicle_fits : (part front back : List ℕ) → part ≡ holds_the_speed front back → length part ≤ 24
vehicle_fits part front back e =
    ⊎_elim
    (λ (h : length (holds_the_speed front back) ≡ 24). omega (arith, ap length e))
    (λ (h : holds_the_speed front back ≡ []). omega (arith, ap length (e ∙ h)))
    (vehicle_or_none front back)

module _ (front back : List ℕ) (room : ℕ) where
  pub vehicle_none : room < 24 → [] ≡ lent_vehicle front back room
  unfolding lent_vehicle
  vehicle_none h = rw (lt-ltb room 24 h)

  pub vehicle_there : 24 ≤ room → holds_the_speed front back ≡ lent_vehicle front back room
  unfolding lent_vehicle
  vehicle_there h = rw (le-ltb room 24 h)

  pub lent_or_none : (length (lent_vehicle front back room) ≡ 24) ⊎ (lent_vehicle front back room ≡ [])
  unfolding lent_vehicle
  lent_or_none = go (24 above room)
    where
      go : (b : Bool) → (length (cond b [] (holds_the_speed front back)) ≡ 24) ⊎ (cond b [] (holds_the_speed front back) ≡ [])
      go true = inr refl
      go false = vehicle_or_none front back
