-- Document 01's account held to the page: each figure at its ceiling and one above, accounts of two lists, their marks, joinings of accounts that no list has, and answers.
use Rattle.std.specs.Prelude.{ℕ, Bool, true, false, List, [], ◌∷◌, ◌++◌, map, get_or, replicate, Err}
use Rattle.lists.specs.Words.{◌is◌}
use Rattle.record.specs.Vehicles.{kind_of, setting_of}
use Rattle.record.specs.Limits.{engine, wagon, hauled_engine}
use Rattle.record.specs.declared.vehicle.Vehicle.{Vehicle}
use Rattle.account.specs.Accounts.{account_of}
use Rattle.account.specs.Ceilings.{within}
use Rattle.account.specs.Joining.{joining}
use Rattle.account.specs.Answers.{Answer, answer_number, answer_place}
use Rattle.account.specs.Portions.{accounted, joined}
use Rattle.account.specs.declared.Account.{Account}
use Rattle.account.specs.declared.Refusal.TheVariants.{NotWhole, TooMany, BadField, WorkingEngine, AboveCeiling}

-- ---- accounts by their figures
-- an account that says these figures, in the page's order: count; mass, V masses, M masses, length; axles, those set to V, hauled engines, records set to M, isolated, D loads;
-- leading, trailing and longest run, slowest speed; the first five; length set to V, M masses of hauled engines, V masses of wagons, set to M (requests Three and Six);
-- and these marks: an engine behind a wagon, rules 16, 17, 18, a hauled engine not set to M
abbrev pub saying : List ℕ → List Bool → Account
saying figures marks =
    record {
      count = figure 0;
      mass = figure 1;
      vmass = figure 2;
      mmass = figure 3;
      length = figure 4;
      axles = figure 5;
      vaxles = figure 6;
      engines = figure 7;
      mset = figure 8;
      isolated = figure 9;
      dloads = figure 10;
      leading = figure 11;
      trailing = figure 12;
      longest = figure 13;
      behind = mark 0;
      rule16 = mark 1;
      rule17 = mark 2;
      rule18 = mark 3;
      slowest = figure 14;
      first = figure 15 ∷ figure 16 ∷ figure 17 ∷ figure 18 ∷ figure 19 ∷ [];
      vlength = figure 20;
      enginemmass = figure 21;
      wagonvmass = figure 22;
      enginenotm = mark 4;
    }
  where
    figure : ℕ → ℕ
    figure place = get_or figures place 0

    mark : ℕ → Bool
    mark place = get_or marks place false

abbrev unmarked : List Bool
unmarked = []

-- an account with one figure alone, by its place in that order
abbrev pub alone : ℕ → ℕ → Account
alone place x = saying (replicate place 0 ++ x ∷ []) unmarked

-- ---- the ceilings
abbrev at_and_above : ℕ → List ℕ → List Bool
at_and_above place xs = map (λ x. within (alone place x)) xs

abbrev pub at_limits : List (List Bool)
at_limits =
    -- count; mass, V masses, M masses; length; axles, those set to V
    at_and_above 0 (200 ∷ 201 ∷ [])
    ∷ at_and_above 1 (500000 ∷ 500001 ∷ [])
    ∷ at_and_above 2 (500000 ∷ 500001 ∷ [])
    ∷ at_and_above 3 (500000 ∷ 500001 ∷ [])
    ∷ at_and_above 4 (200000 ∷ 200001 ∷ [])
    ∷ at_and_above 5 (4800 ∷ 4801 ∷ [])
    ∷ at_and_above 6 (4800 ∷ 4801 ∷ [])
    -- hauled engines, records set to M, isolated, D loads
    ∷ at_and_above 7 (200 ∷ 201 ∷ [])
    ∷ at_and_above 8 (200 ∷ 201 ∷ [])
    ∷ at_and_above 9 (200 ∷ 201 ∷ [])
    ∷ at_and_above 10 (200 ∷ 201 ∷ [])
    -- leading, trailing and longest run; slowest speed
    ∷ at_and_above 11 (200 ∷ 201 ∷ [])
    ∷ at_and_above 12 (200 ∷ 201 ∷ [])
    ∷ at_and_above 13 (200 ∷ 201 ∷ [])
    ∷ at_and_above 14 (200 ∷ 201 ∷ [])
    -- the settings of the first five
    ∷ at_and_above 15 (4 ∷ 5 ∷ [])
    ∷ at_and_above 16 (4 ∷ 5 ∷ [])
    ∷ at_and_above 17 (4 ∷ 5 ∷ [])
    ∷ at_and_above 18 (4 ∷ 5 ∷ [])
    ∷ at_and_above 19 (4 ∷ 5 ∷ [])
    -- length set to V (request Three); M masses of hauled engines, V masses of wagons, set to M (request Six)
    ∷ at_and_above 20 (200000 ∷ 200001 ∷ [])
    ∷ at_and_above 21 (500000 ∷ 500001 ∷ [])
    ∷ at_and_above 22 (500000 ∷ 500001 ∷ [])
    ∷ []

-- each of the 23
abbrev pub expected : List (List Bool)
expected = replicate 23 (true ∷ false ∷ [])

-- ---- the account of a list
-- kind, setting, mass, braked mass in V and in M, length, axles, permitted speed, D load; joined
abbrev hauled : ℕ → ℕ → ℕ → ℕ → ℕ → ℕ → ℕ → ℕ → ℕ → Vehicle
hauled kind setting mass v m length axles speed dload =
    record { number = 18; mass = mass; vmass = v; mmass = m; length = length; axles = axles; kind = kind_of kind; setting = setting_of setting; joined = true; speed = speed; matrossow = false; dload = dload is 1 }

-- none; an engine set to M before three wagons; nine with a run of three isolated
abbrev pub lists : List (List Vehicle)
lists =
    []
    ∷ (hauled 1 1 900 1000 800 200 4 140 0
    ∷ hauled 0 2 610 520 430 150 8 120 1
    ∷ hauled 0 0 320 410 250 140 2 100 0
    ∷ hauled 0 1 701 602 503 170 6 130 0
    ∷ [])
    ∷ (hauled 0 0 311 211 111 101 2 150 1
    ∷ hauled 0 0 312 212 112 102 4 160 1
    ∷ hauled 0 1 413 313 213 103 6 170 1
    ∷ hauled 1 2 914 814 714 204 6 90 0
    ∷ hauled 1 0 915 815 715 205 4 95 0
    ∷ hauled 1 0 916 816 716 206 4 97 1
    ∷ hauled 1 0 917 817 717 207 4 99 0
    ∷ hauled 0 3 318 218 118 108 8 180 1
    ∷ hauled 0 0 319 219 119 109 10 190 0
    ∷ [])
    ∷ []

-- the empty account has 200 as its slowest speed, and 4 where there is no setting
abbrev pub none : Account
none =
    saying (0 ∷ 0 ∷ 0 ∷ 0 ∷ 0
    ∷ 0 ∷ 0 ∷ 0 ∷ 0 ∷ 0 ∷ 0
    ∷ 0 ∷ 0 ∷ 0 ∷ 200
    ∷ 4 ∷ 4 ∷ 4 ∷ 4 ∷ 4
    ∷ 0 ∷ 0 ∷ 0
    ∷ []) unmarked

abbrev pub accounts : List Account
accounts =
    none
    ∷ saying (4 ∷ 2531 ∷ 520 ∷ 1303 ∷ 660
    ∷ 20 ∷ 8 ∷ 1 ∷ 2 ∷ 1 ∷ 1
    ∷ 0 ∷ 0 ∷ 1 ∷ 100
    ∷ 1 ∷ 2 ∷ 0 ∷ 1 ∷ 4
    ∷ 150 ∷ 800 ∷ 602
    ∷ []) unmarked
    ∷ saying (9 ∷ 5335 ∷ 814 ∷ 213 ∷ 1345
    ∷ 48 ∷ 6 ∷ 4 ∷ 1 ∷ 6 ∷ 5
    ∷ 2 ∷ 1 ∷ 3 ∷ 90
    ∷ 0 ∷ 0 ∷ 1 ∷ 2 ∷ 0
    ∷ 204 ∷ 0 ∷ 313
    ∷ []) (true ∷ true ∷ false ∷ false ∷ true ∷ [])
    ∷ []

-- ---- the marks of a list
-- kind, setting, joined, Matrossow brake
abbrev standing : ℕ → ℕ → ℕ → ℕ → Vehicle
standing kind setting joined matrossow =
    record { number = 18; mass = 1; vmass = 0; mmass = 0; length = 1; axles = 1; kind = kind_of kind; setting = setting_of setting; joined = joined is 1; speed = 1; matrossow = matrossow is 1; dload = false }

-- engine behind a wagon, rules 16, 17, 18, engine not set to M
abbrev marks_of : List Vehicle → List Bool
marks_of xs = let a = account_of xs in a.behind ∷ a.rule16 ∷ a.rule17 ∷ a.rule18 ∷ a.enginenotm ∷ []

abbrev pub marks : List (List Bool)
marks =
    -- a wagon set to V; to R; not joined
    marks_of (standing 0 2 1 0 ∷ [])
    ∷ marks_of (standing 0 3 1 0 ∷ [])
    ∷ marks_of (standing 0 2 0 0 ∷ [])
    -- with byte 21: a wagon set to M, to V, to R, isolated; an engine set to M
    ∷ marks_of (standing 0 1 1 1 ∷ [])
    ∷ marks_of (standing 0 2 1 1 ∷ [])
    ∷ marks_of (standing 0 3 1 1 ∷ [])
    ∷ marks_of (standing 0 0 1 1 ∷ [])
    ∷ marks_of (standing 1 1 1 1 ∷ [])
    -- an engine set to V, and one that is isolated
    ∷ marks_of (standing 1 2 1 0 ∷ [])
    ∷ marks_of (standing 1 0 1 0 ∷ [])
    -- an engine before a wagon; behind one; behind one that has an engine before it
    ∷ marks_of (standing 1 1 1 0 ∷ standing 0 1 1 0 ∷ [])
    ∷ marks_of (standing 0 1 1 0 ∷ standing 1 1 1 0 ∷ [])
    ∷ marks_of (standing 1 1 1 0 ∷ standing 0 1 1 0 ∷ standing 0 1 1 0 ∷ standing 1 1 1 0 ∷ [])
    ∷ []

abbrev pub marked : List (List Bool)
marked =
    (false ∷ false ∷ false ∷ false ∷ false ∷ [])
    ∷ (false ∷ true ∷ false ∷ false ∷ false ∷ [])
    ∷ (false ∷ false ∷ true ∷ false ∷ false ∷ [])
    ∷ (false ∷ false ∷ false ∷ true ∷ false ∷ [])
    ∷ (false ∷ false ∷ false ∷ true ∷ false ∷ [])
    ∷ (false ∷ true ∷ false ∷ true ∷ false ∷ [])
    ∷ (false ∷ false ∷ false ∷ false ∷ false ∷ [])
    ∷ (false ∷ false ∷ false ∷ false ∷ false ∷ [])
    ∷ (false ∷ false ∷ false ∷ false ∷ true ∷ [])
    ∷ (false ∷ false ∷ false ∷ false ∷ true ∷ [])
    ∷ (false ∷ false ∷ false ∷ false ∷ false ∷ [])
    ∷ (true ∷ false ∷ false ∷ false ∷ false ∷ [])
    ∷ (true ∷ false ∷ false ∷ false ∷ false ∷ [])
    ∷ []

-- ---- joining, of accounts that no list has
abbrev one : Account
one =
    saying (3 ∷ 11 ∷ 22 ∷ 33 ∷ 44
    ∷ 55 ∷ 66 ∷ 2 ∷ 77 ∷ 88 ∷ 99
    ∷ 3 ∷ 2 ∷ 1 ∷ 150
    ∷ 0 ∷ 1 ∷ 2 ∷ 3 ∷ 4
    ∷ 110 ∷ 121 ∷ 132
    ∷ []) (false ∷ true ∷ false ∷ false ∷ false ∷ [])

abbrev other : Account
other =
    saying (4 ∷ 100 ∷ 200 ∷ 300 ∷ 400
    ∷ 500 ∷ 600 ∷ 9 ∷ 10 ∷ 20 ∷ 30
    ∷ 5 ∷ 4 ∷ 2 ∷ 140
    ∷ 3 ∷ 2 ∷ 1 ∷ 0 ∷ 4
    ∷ 700 ∷ 800 ∷ 900
    ∷ []) (false ∷ false ∷ true ∷ false ∷ true ∷ [])

abbrev pub together : Account
together = joining one other

-- leading is the left count, 3, and trailing the right count, 4; 2 and 5 isolated cross the cut; 3 are more than 2 engines, and the right has engines
abbrev pub joined_figures : Account
joined_figures =
    saying (7 ∷ 111 ∷ 222 ∷ 333 ∷ 444
    ∷ 555 ∷ 666 ∷ 11 ∷ 87 ∷ 108 ∷ 129
    ∷ 8 ∷ 6 ∷ 7 ∷ 140
    ∷ 0 ∷ 1 ∷ 2 ∷ 3 ∷ 2
    ∷ 810 ∷ 921 ∷ 1032
    ∷ []) (true ∷ true ∷ true ∷ false ∷ true ∷ [])

-- count, leading, trailing, longest, hauled engines, the mark behind and the first five
abbrev portion : ℕ → ℕ → ℕ → ℕ → ℕ → Bool → List ℕ → Account
portion n leading trailing longest engines behind first =
    saying (n ∷ 0 ∷ 0 ∷ 0 ∷ 0 ∷ 0 ∷ 0 ∷ engines ∷ 0 ∷ 0 ∷ 0 ∷ leading ∷ trailing ∷ longest ∷ 200 ∷ first) (behind ∷ [])

-- runs joined: leading, trailing, longest
abbrev runs_of : List ℕ → List ℕ
runs_of xs =
    let at : ℕ → ℕ = λ k. get_or xs k 0 in
    let a = joining (portion (at 0) (at 1) (at 2) (at 3) 0 false []) (portion (at 4) (at 5) (at 6) (at 7) 0 false []) in
    a.leading ∷ a.trailing ∷ a.longest ∷ []

abbrev pub runs : List (List ℕ)
runs =
    -- leading is not the left count, trailing not the right count; below and above it
    runs_of (3 ∷ 2 ∷ 1 ∷ 90 ∷ 4 ∷ 1 ∷ 3 ∷ 2 ∷ [])
    ∷ runs_of (3 ∷ 4 ∷ 1 ∷ 2 ∷ 4 ∷ 1 ∷ 5 ∷ 80 ∷ [])
    -- an empty left, an empty right
    ∷ runs_of (0 ∷ 0 ∷ 0 ∷ 0 ∷ 4 ∷ 1 ∷ 2 ∷ 3 ∷ [])
    ∷ runs_of (4 ∷ 1 ∷ 2 ∷ 3 ∷ 0 ∷ 0 ∷ 0 ∷ 0 ∷ [])
    ∷ []

-- the greatest of both and of left trailing plus right leading
abbrev pub runs_joined : List (List ℕ)
runs_joined = (2 ∷ 3 ∷ 90 ∷ []) ∷ (4 ∷ 5 ∷ 80 ∷ []) ∷ (1 ∷ 2 ∷ 3 ∷ []) ∷ (1 ∷ 2 ∷ 3 ∷ []) ∷ []

-- an engine behind a wagon: counts, engines and marks of both
abbrev behind_of : ℕ → ℕ → Bool → ℕ → ℕ → Bool → Bool
behind_of n engines left m others right = (joining (portion n 0 0 0 engines left []) (portion m 0 0 0 others right [])).behind

abbrev pub behinds : List Bool
behinds =
    behind_of 3 2 false 1 1 false
    ∷ behind_of 3 3 false 2 1 false
    ∷ behind_of 3 4 false 2 1 false
    ∷ behind_of 3 2 false 1 0 false
    ∷ behind_of 3 3 true 1 0 false
    ∷ behind_of 3 3 false 2 1 true
    ∷ []

abbrev pub behinds_joined : List Bool
behinds_joined = true ∷ false ∷ false ∷ false ∷ true ∷ true ∷ []

-- the five of a left with this count
abbrev five_of : ℕ → List ℕ
five_of n = (joining (portion n 0 0 0 0 false (0 ∷ 1 ∷ 2 ∷ 3 ∷ 0 ∷ [])) (portion 9 0 0 0 0 false (3 ∷ 3 ∷ 2 ∷ 1 ∷ 1 ∷ []))).first

abbrev pub fives : List (List ℕ)
fives = five_of 0 ∷ five_of 1 ∷ five_of 4 ∷ five_of 5 ∷ five_of 6 ∷ []

abbrev pub fives_joined : List (List ℕ)
fives_joined =
    (3 ∷ 3 ∷ 2 ∷ 1 ∷ 1 ∷ [])
    ∷ (0 ∷ 3 ∷ 3 ∷ 2 ∷ 1 ∷ [])
    ∷ (0 ∷ 1 ∷ 2 ∷ 3 ∷ 3 ∷ [])
    ∷ (0 ∷ 1 ∷ 2 ∷ 3 ∷ 0 ∷ [])
    ∷ (0 ∷ 1 ∷ 2 ∷ 3 ∷ 0 ∷ [])
    ∷ []

-- ---- answers: number and place
abbrev answer_of : Answer → ℕ × ℕ
answer_of r = (answer_number r, answer_place r)

-- 1, 2, 3, 6 of a portion, 7 and 2 of joining: a refusal returns the empty account
abbrev pub refused_accounts : List Answer
refused_accounts =
    accounted (replicate 23 0)
    ∷ accounted (replicate 4824 0)
    ∷ accounted (replicate 24 0)
    ∷ accounted engine
    ∷ joined (alone 0 201) (alone 0 0)
    ∷ joined (alone 0 150) (alone 0 51)
    ∷ []

abbrev pub refusals_with_none : List Answer
refusals_with_none = map (λ r. Err (record { refusal = r; account = none })) (NotWhole ∷ TooMany ∷ BadField 0 ∷ WorkingEngine ∷ AboveCeiling ∷ TooMany ∷ [])

abbrev pub answers : List (ℕ × ℕ)
answers =
    -- an empty portion is good; 23 bytes, 200 and 201 records of zeros
    answer_of (accounted [])
    ∷ answer_of (accounted (replicate 23 0))
    ∷ answer_of (accounted (replicate 4800 0))
    ∷ answer_of (accounted (replicate 4824 0))
    -- a wagon and a hauled engine; a working engine behind them; and a record of zeros behind all
    ∷ answer_of (accounted (wagon ++ hauled_engine))
    ∷ answer_of (accounted (wagon ++ hauled_engine ++ engine))
    ∷ answer_of (accounted (wagon ++ hauled_engine ++ engine ++ replicate 24 0))
    -- joining: a count at its ceiling and one above; the left, the right above its own
    ∷ answer_of (joined (alone 0 150) (alone 0 50))
    ∷ answer_of (joined (alone 0 150) (alone 0 51))
    ∷ answer_of (joined (alone 0 201) (alone 0 0))
    ∷ answer_of (joined (alone 0 0) (alone 0 201))
    ∷ []

abbrev pub answered : List (ℕ × ℕ)
answered =
    (0, 0) ∷ (1, 0) ∷ (3, 0) ∷ (2, 0)
    ∷ (0, 0) ∷ (6, 0) ∷ (3, 3)
    ∷ (0, 0) ∷ (2, 0) ∷ (7, 0) ∷ (7, 0)
    ∷ []
