-- Laws of accounts that come as bytes and go as bytes. Assumes nothing.
use Rattle.std.proofs.Common.{ℕ, ◌≤◌, ◌≡◌, refl, sym, ap, ap₂, ◌∙◌, Bool, true, false, not, ◌&&◌, ◌||◌, cond, List, [], ◌∷◌, ◌++◌, map, length, take, replicate, arith, length-append, Result, Ok, Err}
use Rattle.std.specs.Prelude.{IsOk, is_ok, ⊤}
use Rattle.std.specs.Result.{result_unwrap_or}
use lib.Seq.{length-take-le}
use borrow.Author.Tests.{le-ltb}
use Rattle.lists.specs.Words.{◌is◌, ◌above◌, all}
use Rattle.lists.specs.Refusals.{answered}
use Rattle.record.specs.Vehicles.{vehicles, is_working, setting_number}
use Rattle.record.specs.declared.vehicle.Vehicle.{Vehicle}
use Rattle.account.specs.Accounts.{account_of}
use Rattle.account.specs.Ceilings.{within}
use Rattle.account.specs.Joining.{joining}
use Rattle.account.specs.Answers.{Answer, refusal, unless_refused}
use Rattle.account.specs.Portions.{accounted, join_refusals, joined}
use Rattle.account.specs.Groupings.{Grouping, portion, pair, uncut, joined_answers, joined_bytes, BetweenRecords, NoneRefused}
use Rattle.account.specs.declared.Account.{Account}
use Rattle.account.specs.declared.Refusal.TheVariants as account-case
use Rattle.account.proofs.Demands as account-demands
use Rattle.account.proofs.Demands.{portion_done_exactly, portion_of, within_ceilings, any_grouping_not_refused}
use Rattle.record.specs.Records.{is_whole}
use Rattle.order.specs.Orders.{order_of}
use Rattle.facts.specs.Engines.{GoodEngines}
use Rattle.facts.specs.Facts.{facts_beside}
use Rattle.judge.specs.Answers.{account_refusals, train_answer, train_sheet, account_answer, account_sheet, sheet_for, written}
use Rattle.judge.specs.declared.Refusal.{Refusal}
use Rattle.judge.specs.declared.Refusal.TheVariants.{AboveCeiling}
use Rattle.judge.proofs.Demands.{sheet_from_account}
use Rattle.route.specs.Answers as route
use Rattle.route.specs.Answers.{granted_for, speeds_for, route_by, train_route, train_speeds, account_route, account_speeds}
use Rattle.route.proofs.Demands.{route_from_account}
use Rattle.travel.specs.AccountRecords.{size, account_in, is_account, offered, record_of}
use Rattle.travel.proofs.Demands.{read_back_within, within_exactly}
use Rattle.exports.specs.Lent.{sheet_number, route_number, lent_number, lent_account, written_of, carried, AllAnswered}

-- ---- 7 in joining
module _ (left right : List ℕ) where
  abbrev both : Answer
  both = joined (offered left) (offered right)

  both_within : (within (offered left) && within (offered right)) ≡ (is_account left && is_account right)
  both_within = ap₂ ◌&&◌ (within_exactly left) (within_exactly right)

  pub join_refused_seven : (room : List ℕ) → (is_account left && is_account right) ≡ false → (lent_number both (length room) ≡ 7) × (lent_account both room ≡ room)
  unfolding join_refusals
  join_refused_seven room e = rw (both_within ∙ e) (refl, refl)

  pub join_other_number : (room : ℕ) → (is_account left && is_account right) ≡ true → lent_number both room ≡ 7 → ⊥
  unfolding join_refusals
  join_other_number room e seven = go (within (joining (offered left) (offered right))) (rw (both_within ∙ e) at seven)
    where
      no_seven : (short : Bool) → cond {A = ℕ} short 5 0 ≡ 7 → ⊥
      no_seven true e = omega arith
      no_seven false e = omega arith

      go : (w : Bool) → lent_number (unless_refused (answered (refusal account-case.TooMany (not w) ∷ [])) (joining (offered left) (offered right))) room ≡ 7 → ⊥
      go true e = no_seven (size above room) e
      go false e = omega arith

  joined_within : (a : Account) → both ≡ Ok a → (a ≡ joining (offered left) (offered right)) × (within a ≡ true)
  unfolding join_refusals
  joined_within a e = go (within (offered left) && within (offered right)) (within (joining (offered left) (offered right))) refl e
    where
      go : (p q : Bool) → within (joining (offered left) (offered right)) ≡ q
          → unless_refused (answered (refusal account-case.AboveCeiling (not p) ∷ refusal account-case.TooMany (not q) ∷ [])) (joining (offered left) (offered right)) ≡ Ok a
          → (a ≡ joining (offered left) (offered right)) × (within a ≡ true)
      go true true w e = let s : a ≡ joining (offered left) (offered right) = cc in (s, ap within s ∙ w)
      go true false w e = absurd cc
      go false q w e = absurd cc

-- ---- 7 of engines with an account
module _ (engines hauled : List ℕ) (whole : (length engines is 0 || not (is_whole engines)) ≡ false) (bad : is_account hauled ≡ false) where
  sheet_answer : (order : List ℕ) (room : ℕ) → account_answer engines (offered hauled) order room ≡ Err AboveCeiling
  unfolding account_refusals
  sheet_answer order room = rw (whole, within_exactly hauled ∙ bad)

  pub sheet_refused_seven : (order sheet : List ℕ) → (sheet_number (account_answer engines (offered hauled) order (length sheet)) ≡ 7) × (account_sheet engines (offered hauled) order sheet ≡ sheet)
  sheet_refused_seven order sheet = (ap sheet_number (sheet_answer order (length sheet)), ap (λ (a : Result ⊤ Refusal). written a (sheet_for (facts_beside (vehicles engines) (offered hauled)) (order_of order)) sheet) (sheet_answer order (length sheet)))

  route_answer : (orders : List ℕ) (room : ℕ) → route.account_answer engines (offered hauled) orders room ≡ Err AboveCeiling
  unfolding route.account_refusals
  route_answer orders room = rw (whole, within_exactly hauled ∙ bad)

  pub route_refused_seven : (orders speeds : List ℕ)
      → (route_number (account_route engines (offered hauled) orders (length speeds)) ≡ 7)
      × (result_unwrap_or (account_route engines (offered hauled) orders (length speeds)) 0 ≡ 0)
      × (account_speeds engines (offered hauled) orders speeds ≡ speeds)
  route_refused_seven orders speeds =
      let f = facts_beside (vehicles engines) (offered hauled) in
      let seven = route_answer orders (length speeds) in (
        ap (λ (a : Result ⊤ Refusal). route_number (route_by a (granted_for f orders))) seven,
        ap (λ (a : Result ⊤ Refusal). result_unwrap_or (route_by a (granted_for f orders)) 0) seven,
        ap (λ (a : Result ⊤ Refusal). written a (speeds_for f orders) speeds) seven,
      )

-- ---- what the C functions write reads back
five_of_lem : (xs : List Vehicle) → length (account_of xs).first ≡ 5
unfolding account_of
five_of_lem xs = length-take-le 5 (map (λ (v : Vehicle). setting_number v.setting) xs ++ replicate 5 4) (omega (arith, length-append (map (λ (v : Vehicle). setting_number v.setting) xs) (replicate 5 4)))

pub portion_back : (bs : List ℕ) (a : Account) → accounted bs ≡ Ok a → offered (record_of a) ≡ a
portion_back bs a e =
    let s = (portion_done_exactly bs).0 (rw e refl) in
    let q = (portion_done_exactly bs).1 s in
    let same : a ≡ account_of (vehicles bs) = cc in
    rw same (read_back_within (account_of (vehicles bs)) (five_of_lem (vehicles bs)) (within_ceilings (vehicles bs) (portion_of bs s)))

five_offered : (bs : List ℕ) → length (offered bs).first ≡ 5
unfolding offered account_in
five_offered bs = refl

five_joined : (l r : Account) → length r.first ≡ 5 → length (joining l r).first ≡ 5
unfolding joining
five_joined l r h = length-take-le 5 (take l.count l.first ++ r.first) (omega (arith, length-append (take l.count l.first) r.first))

pub join_back : (left right : List ℕ) (a : Account) → both left right ≡ Ok a → offered (record_of a) ≡ a
join_back left right a e =
    let j = joined_within left right a e in
    read_back_within a (ap (λ (x : Account). length x.first) j.0 ∙ five_joined (offered left) (offered right) (five_offered right)) ((account-demands.within_exactly a).0 j.1)

-- ---- and so does what is joined call after call
module _ {answer : Answer} (reads : (a : Account) → answer ≡ Ok a → offered (record_of a) ≡ a) where
  written_back : (r : Answer) → answer ≡ r → IsOk r → answer ≡ Ok (offered (written_of answer))
  written_back (Ok a) e done = e ∙ ap Ok (sym (ap (λ (r : Answer). offered (written_of r)) e ∙ reads a e))
  written_back (Err refusal) e done = absurd cc

pub grouping_back : (g : Grouping ℕ) → NoneRefused g → joined_bytes g ≡ Ok (offered (carried g))
grouping_back (portion bs) h = written_back (portion_back bs) (accounted bs) refl h
grouping_back (pair left right) h =
    let l = carried left in
    let r = carried right in
    let e : joined_bytes (pair left right) ≡ both l r = ap₂ joined_answers (grouping_back left h.0) (grouping_back right h.1) in
    e ∙ written_back (join_back l r) (joined_bytes (pair left right)) (sym e) h.2

-- ---- from the records alone
lent_zero : (answer : Answer) (room : ℕ) → IsOk answer → size ≤ room → lent_number answer room ≡ 0
lent_zero (Ok a) room done h = rw (le-ltb room size h)
lent_zero (Err refusal) room done h = absurd cc

pub grouping_answered : (g : Grouping ℕ) → NoneRefused g → (room : ℕ) → size ≤ room → AllAnswered g room
grouping_answered (portion bs) h room fits = lent_zero (accounted bs) room h fits
grouping_answered (pair left right) h room fits =
    let e : joined_bytes (pair left right) ≡ both (carried left) (carried right) = ap₂ joined_answers (grouping_back left h.0) (grouping_back right h.1) in
    (grouping_answered left h.0 room fits, grouping_answered right h.1 room fits, lent_zero (both (carried left) (carried right)) room (rw (sym e) h.2) fits)

module _ (g : Grouping ℕ) (cut : BetweenRecords g) (none : NoneRefused g) where
  pub grouping_account : accounted (uncut g) ≡ Ok (offered (carried g))
  grouping_account = sym (any_grouping_not_refused g none) ∙ grouping_back g none

  uncut_done : IsOk (accounted (uncut g))
  uncut_done = ap is_ok grouping_account

  pub grouping_sheet : (engines order sheet : List ℕ) → GoodEngines engines → all is_working (vehicles engines) ≡ true
      → (account_answer engines (offered (carried g)) order (length sheet) ≡ train_answer (engines ++ uncut g) order (length sheet))
      × (account_sheet engines (offered (carried g)) order sheet ≡ train_sheet (engines ++ uncut g) order sheet)
  grouping_sheet engines order sheet e w = sheet_from_account engines g order sheet e w cut uncut_done (offered (carried g)) (grouping_back g none)

  pub grouping_route : (engines orders speeds : List ℕ) → GoodEngines engines → all is_working (vehicles engines) ≡ true
      → (account_route engines (offered (carried g)) orders (length speeds) ≡ train_route (engines ++ uncut g) orders (length speeds))
      × (account_speeds engines (offered (carried g)) orders speeds ≡ train_speeds (engines ++ uncut g) orders speeds)
  grouping_route engines orders speeds e w = route_from_account engines g orders speeds e w cut uncut_done (offered (carried g)) (grouping_back g none)
