-- The account of a list that is cut is its portions' accounts, joined, in every grouping; sums of exchanged neighbours; the length set to V. Assumes nothing.
use Prim.Native.Nat.{ℕ, zero, suc, ◌≤◌}
use native.Mathlib.Omega.{arith}
use mathlib.Core.Path.{◌≡◌, refl, sym, ap, ap₂, ◌∙◌}
use mathlib.Core.Bool.{Bool, true, false, not, ◌&&◌, ◌||◌, cond}
use mathlib.Core.List.{List, [], ◌∷◌, ◌++◌}
use lib.Dec.{ltb, eqb}
use lib.ListN.{length, length-append}
use Rattle.std.specs.Prelude.{Ok, Err}
use Rattle.lists.specs.Words.{Every}
use Rattle.record.specs.Vehicles.{kind_number, setting_number, is_wagon, is_hauled_engine, is_isolated, is_m, is_v, is_r, is_joined, has_matrossow, has_d_load}
use Rattle.record.specs.declared.vehicle.Vehicle.{Vehicle}
use Rattle.lists.specs.Figures.{sum, count, some, behind}
use Rattle.account.specs.Accounts.{account_of, sums}
use Rattle.account.specs.Ceilings.{within}
use Rattle.account.specs.Joining.{joining}
use Rattle.account.specs.Answers.{Answer, refused_by}
use Rattle.account.specs.Portions.{join_refusals, joined}
use Rattle.account.specs.Groupings.{Hauled, GoodHauled, Portion, Grouping, portion, pair, uncut, joined_answers, joined_vehicles}
use Rattle.account.specs.declared.Account.{Account}
use Rattle.account.specs.declared.Refusal.TheVariants.{TooMany, AboveCeiling}
use Rattle.account.specs.declared.Refused.{Refused}
use Rattle.lists.proofs.Lists.{neither, every_map}
use Rattle.lists.proofs.Figures.{sum_append, count_append, some_append, leading_append, trailing_append, longest_append, behind_append, some_count, some_same, lack_count, least_append, firsts_append, sum_exchange, length_exchange, sum_less, cond_le}
use Rattle.account.proofs.Ceils.{within_test, portion_ceilings, portion_left, portion_right}

-- of a hauled vehicle, what is no hauled engine is a wagon
hauled_wagon : (k : ℕ) → k ≤ 1 → eqb k 0 ≡ not (eqb k 1)
hauled_wagon zero h = refl
hauled_wagon (suc zero) h = refl
hauled_wagon (suc (suc k)) h = absurd (omega arith)

behind_account : (xs ys : List Vehicle) → Every Hauled xs
    → behind is_wagon is_hauled_engine (xs ++ ys)
    ≡ (behind is_wagon is_hauled_engine xs || behind is_wagon is_hauled_engine ys || (ltb (count is_hauled_engine xs) (length xs) && ltb 0 (count is_hauled_engine ys)))
behind_account xs ys h =
    behind_append is_wagon is_hauled_engine xs ys
    ∙ ap₂ (λ (s t : Bool). behind is_wagon is_hauled_engine xs || behind is_wagon is_hauled_engine ys || (s && t))
    (some_same is_wagon (λ v. not (is_hauled_engine v)) xs (every_map Hauled (λ v. is_wagon v ≡ not (is_hauled_engine v)) (λ v k. hauled_wagon (kind_number v.kind) k) xs h)
    ∙ lack_count is_hauled_engine xs)
    (some_count is_hauled_engine ys)

pub account_append : (xs ys : List Vehicle) → Every Hauled xs → account_of (xs ++ ys) ≡ joining (account_of xs) (account_of ys)
unfolding account_of joining
account_append xs ys h =
    λ i.
    record {
      count = length-append xs ys i;
      mass = sum_append (λ v. v.mass) xs ys i;
      vmass = sum_append (λ v. cond (is_v v) v.vmass 0) xs ys i;
      mmass = sum_append (λ v. cond (is_m v) v.mmass 0) xs ys i;
      length = sum_append (λ v. v.length) xs ys i;
      axles = sum_append (λ v. v.axles) xs ys i;
      vaxles = sum_append (λ v. cond (is_v v) v.axles 0) xs ys i;
      engines = count_append is_hauled_engine xs ys i;
      mset = count_append is_m xs ys i;
      isolated = count_append is_isolated xs ys i;
      dloads = count_append has_d_load xs ys i;
      leading = leading_append is_isolated xs ys i;
      trailing = trailing_append is_isolated xs ys i;
      longest = longest_append is_isolated xs ys i;
      behind = behind_account xs ys h i;
      rule16 = some_append is_r xs ys i;
      rule17 = some_append (λ v. not (is_joined v)) xs ys i;
      rule18 = some_append (λ v. is_wagon v && has_matrossow v && not (is_isolated v)) xs ys i;
      slowest = least_append 200 (λ v. v.speed) xs ys i;
      first = firsts_append 5 4 (λ v. setting_number v.setting) xs ys i;
      vlength = sum_append (λ v. cond (is_v v) v.length 0) xs ys i;
      enginemmass = sum_append (λ v. cond (is_hauled_engine v && is_m v) v.mmass 0) xs ys i;
      wagonvmass = sum_append (λ v. cond (is_wagon v && is_m v) v.vmass 0) xs ys i;
      enginenotm = some_append (λ v. is_hauled_engine v && not (is_m v)) xs ys i;
    }

pub each_hauled : (xs : List Vehicle) → Every GoodHauled xs → Every Hauled xs
each_hauled = every_map GoodHauled Hauled (λ v g. g.hauled)

-- ---- what joining answers, case by case
-- a refusal as the code makes it
pub refused_is : {r s : Refused} → r ≡ s → ◌≡◌ {A = Answer} (Err r) (Err s)
refused_is e = ap (λ (r : Refused). Err r) e

module _ (left right : Account) where
  pub joined_above : (within left && within right) ≡ false → Err (refused_by AboveCeiling) ≡ joined left right
  unfolding join_refusals
  joined_above e = simp e

  pub joined_many : (within left && within right) ≡ true → within (joining left right) ≡ false → Err (refused_by TooMany) ≡ joined left right
  unfolding join_refusals
  joined_many d e = simp (d, e)

  pub joined_done : (within left && within right) ≡ true → within (joining left right) ≡ true → Ok (joining left right) ≡ joined left right
  unfolding join_refusals
  joined_done d e = simp (d, e)

-- ---- any grouping of neighbours
pub portion_within : (xs : List Vehicle) → Portion xs → within (account_of xs) ≡ true
portion_within xs h = within_test (account_of xs) (portion_ceilings xs h)

pub joined_accounts : (xs ys : List Vehicle) → Portion (xs ++ ys)
    → joined (account_of xs) (account_of ys) ≡ Ok (account_of (xs ++ ys))
joined_accounts xs ys h =
    let left = portion_left xs ys h in
    let same = account_append xs ys (each_hauled xs left.each) in
    sym (joined_done (account_of xs) (account_of ys) (ap₂ ◌&&◌ (portion_within xs left) (portion_within ys (portion_right xs ys h))) (ap within (sym same) ∙ portion_within (xs ++ ys) h))
    ∙ ap (λ (a : Account). Ok a) (sym same)

-- the accounts of the portions, joined in any grouping of neighbours, are the account of the uncut list
pub grouped : (g : Grouping Vehicle) → Portion (uncut g) → joined_vehicles g ≡ Ok (account_of (uncut g))
grouped (portion xs) h = refl
grouped (pair left right) h =
    ap₂ joined_answers
    (grouped left (portion_left (uncut left) (uncut right) h))
    (grouped right (portion_right (uncut left) (uncut right) h))
    ∙ joined_accounts (uncut left) (uncut right) h

-- ---- two neighbours exchanged
pub exchanged : (xs ys : List Vehicle) (a b : Vehicle)
    → sums (account_of (xs ++ (a ∷ b ∷ ys))) ≡ sums (account_of (xs ++ (b ∷ a ∷ ys)))
unfolding account_of
exchanged xs ys a b =
    let same : (f : Vehicle → ℕ) → sum f (xs ++ (a ∷ b ∷ ys)) ≡ sum f (xs ++ (b ∷ a ∷ ys)) = sum_exchange xs ys a b in
    λ i.
    length_exchange xs ys a b i
    ∷ same (λ v. v.mass) i
    ∷ same (λ v. cond (is_v v) v.vmass 0) i
    ∷ same (λ v. cond (is_m v) v.mmass 0) i
    ∷ same (λ v. v.length) i
    ∷ same (λ v. v.axles) i
    ∷ same (λ v. cond (is_v v) v.axles 0) i
    ∷ same (λ v. cond (is_hauled_engine v) 1 0) i
    ∷ same (λ v. cond (is_m v) 1 0) i
    ∷ same (λ v. cond (is_isolated v) 1 0) i
    ∷ same (λ v. cond (has_d_load v) 1 0) i
    ∷ same (λ v. cond (is_v v) v.length 0) i
    ∷ same (λ v. cond (is_hauled_engine v && is_m v) v.mmass 0) i
    ∷ same (λ v. cond (is_wagon v && is_m v) v.vmass 0) i
    ∷ []

-- ---- the length of records set to V
pub v_length_le : (xs : List Vehicle) → (account_of xs).vlength ≤ (account_of xs).length
unfolding account_of
v_length_le = sum_less (λ v. cond (is_v v) v.length 0) (λ v. v.length) (λ v. cond_le (is_v v) v.length v.length (omega arith))

none_v : (xs : List Vehicle) → some is_v xs ≡ false → (account_of xs).vlength ≡ 0
unfolding account_of
none_v [] e = refl
none_v (x ∷ xs) e = let n = neither (is_v x) (some is_v xs) e in rw (n.0, none_v xs n.1)

pub v_length_kept : (front others back : List Vehicle) → some is_v others ≡ false → (account_of (front ++ (others ++ back))).vlength ≡ (account_of (front ++ back)).vlength
unfolding account_of
v_length_kept front others back e =
    let f : Vehicle → ℕ = λ v. cond (is_v v) v.length 0 in
    omega (arith, sum_append f front (others ++ back), sum_append f others back, sum_append f front back, none_v others e)
