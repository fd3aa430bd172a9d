-- Laws of the facts: the five first settings of an account, that the two readings of a train agree, and that the length set to V is within the hauled. Assumes nothing.
use Prim.Native.Nat.{ℕ, ◌+◌, ◌%◌, ◌≤◌, ◌<◌}
use native.Mathlib.Omega.{arith}
use mathlib.Core.Path.{◌≡◌, refl, ap, ap₂, ◌∙◌}
use mathlib.Core.Bool.{Bool, false, not, ◌&&◌, ◌||◌, cond, or-false}
use mathlib.Core.List.{List, [], ◌∷◌, ◌++◌}
use lib.ListN.{length, take, drop}
use lib.Seq.{take_at, drop_at}
use borrow.Author.Tests.{eqb-true, ne_eqb}
use Rattle.lists.specs.Words.{leading, Every}
use Rattle.record.specs.Vehicles.{kind_number, is_wagon, is_hauled_engine, is_working, is_isolated, is_m, is_v, is_r, is_joined, has_matrossow, has_d_load}
use Rattle.record.specs.declared.vehicle.Vehicle.{Vehicle}
use Rattle.lists.specs.Figures.{sum, count, some, first_is, longest, behind, least}
use Rattle.account.specs.Accounts.{account_of}
use Rattle.facts.specs.Readings.{first_isolated, last_isolated, first_five_v, after_fifth_m, is_long, few_wagons}
use Rattle.lists.proofs.Lists.{every_map}
use Rattle.lists.proofs.Figures.{sum_append, count_append, some_append, least_append, behind_append, some_count, leading_parted, each_none}
use Rattle.facts.proofs.Readings.{rule_19, rule_20, rule_43, rule_44, long_agrees, rule_67}
use Rattle.account.specs.Ceilings.{Within}
use Rattle.account.specs.declared.Account.{Account}
use Rattle.account.proofs.Demands.{figure_at_lem, v_length_most}
use Rattle.facts.specs.Engines.{engines_of}
use Rattle.facts.proofs.Engines.{AtMost}
use Rattle.facts.specs.declared.engine.Engines.{Engines}
use Rattle.facts.specs.declared.Facts.{Facts}
use Rattle.facts.specs.Facts.{working_of, hauled_of, facts_of, beside_of, facts_beside, held, Bounded, Working}

-- ---- working engines in front of hauled vehicles
none : (p : Vehicle → Bool) → ((v : Vehicle) → Working v → p v ≡ false) → (working : List Vehicle) → Every Working working → some p working ≡ false
none p h working w = each_none p working (every_map Working (λ v. p v ≡ false) h working w)

not_wagon : (v : Vehicle) → Working v → is_wagon v ≡ false
not_wagon v w = ne_eqb (kind_number v.kind) 0 (λ q. omega (arith, eqb-true (kind_number v.kind) 2 w))

-- the two readings of a train agree: over its records, and beside its working engines from the account of the hauled
module _ (working hauled : List Vehicle) (w : Every Working working) (first : first_is is_working hauled ≡ false) where
  lead : leading is_working (working ++ hauled) ≡ length working
  lead = leading_parted is_working working hauled w first

  pub engines_are : working_of (working ++ hauled) ≡ working
  engines_are = ap (λ (n : ℕ). take n (working ++ hauled)) lead ∙ take_at working hauled (length working) refl

  pub rest_is : hauled_of (working ++ hauled) ≡ hauled
  rest_is = ap (λ (n : ℕ). drop n (working ++ hauled)) lead ∙ drop_at working hauled (length working) refl

  no_wagon : some is_wagon working ≡ false
  no_wagon = none is_wagon not_wagon working w

  behind_hauled : behind is_wagon is_hauled_engine (working ++ hauled) ≡ behind is_wagon is_hauled_engine hauled
  behind_hauled =
      behind_append is_wagon is_hauled_engine working hauled
      ∙ ap₂ (λ (x y : Bool). x || behind is_wagon is_hauled_engine hauled || (y && some is_hauled_engine hauled)) (none_behind working w) no_wagon
      ∙ or-false (behind is_wagon is_hauled_engine hauled)
    where
      none_behind : (xs : List Vehicle) → Every Working xs → behind is_wagon is_hauled_engine xs ≡ false
      none_behind [] e = refl
      none_behind (x ∷ xs) e = ap₂ (λ (p q : Bool). (p && some is_hauled_engine xs) || q) (not_wagon x e.0) (none_behind xs e.1)

  unbraked_hauled : some (λ v. is_wagon v && has_matrossow v && not (is_isolated v)) (working ++ hauled) ≡ some (λ v. is_wagon v && has_matrossow v && not (is_isolated v)) hauled
  unbraked_hauled =
      some_append (λ v. is_wagon v && has_matrossow v && not (is_isolated v)) working hauled
      ∙ ap (λ (b : Bool). b || some (λ v. is_wagon v && has_matrossow v && not (is_isolated v)) hauled)
      (none (λ v. is_wagon v && has_matrossow v && not (is_isolated v)) (λ v k. ap (λ (b : Bool). b && has_matrossow v && not (is_isolated v)) (not_wagon v k)) working w)

  pub facts_same : facts_of (working ++ hauled) ≡ facts_beside working (account_of hauled)
  unfolding facts_of beside_of engines_of account_of
  facts_same =
      λ i.
      record {
        hauledMass = sum (λ v. v.mass) (rest_is i);
        trainMass = sum_append (λ v. v.mass) working hauled i;
        hauledLength = sum (λ v. v.length) (rest_is i);
        hauledVLength = sum (λ v. cond (is_v v) v.length 0) (rest_is i);
        trainLength = sum_append (λ v. v.length) working hauled i;
        axles = sum_append (λ v. v.axles) working hauled i;
        engines = length (engines_are i) + count is_hauled_engine (rest_is i);
        vmass = sum_append (λ v. cond (is_v v) v.vmass 0) working hauled i;
        mmass = sum_append (λ v. cond (is_m v) v.mmass 0) working hauled i;
        vaxles = sum_append (λ v. cond (is_v v) v.axles 0) working hauled i;
        longest = longest is_isolated (rest_is i);
        hauledM = (ap (some is_m) rest_is ∙ some_count is_m hauled) i;
        workingNotM = some (λ v. not (is_m v)) (engines_are i);
        firstFiveV = (ap first_five_v rest_is ∙ rule_43 hauled) i;
        afterFifthM = (ap after_fifth_m rest_is ∙ rule_44 hauled) i;
        firstIsolated = (ap first_isolated rest_is ∙ rule_19 hauled) i;
        lastIsolated = (ap last_isolated rest_is ∙ rule_20 hauled) i;
        behind = behind_hauled i;
        setR = some_append is_r working hauled i;
        notJoined = some_append (λ v. not (is_joined v)) working hauled i;
        matrossow = unbraked_hauled i;
        slowest = least_append 200 (λ v. v.speed) working hauled i;
        dloads = count_append has_d_load working hauled i;
        isolated = count_append is_isolated working hauled i;
        enginesMMass = sum (λ v. cond (is_m v) v.mmass 0) (engines_are i) + sum (λ v. cond (is_hauled_engine v && is_m v) v.mmass 0) (rest_is i);
        wagonsVMass = sum (λ v. cond (is_wagon v && is_m v) v.vmass 0) (rest_is i);
        hauledEngineNotM = some (λ v. is_hauled_engine v && not (is_m v)) (rest_is i);
        long = (ap₂ is_long engines_are rest_is ∙ long_agrees working hauled) i;
        fewWagons = (ap few_wagons rest_is ∙ rule_67 hauled) i;
        slowestHauled = least 200 (λ v. v.speed) (rest_is i);
        slowestWorking = least 200 (λ v. v.speed) (engines_are i);
      }

-- ---- what the facts are at most, and that they then stand as they are
pub beside_bounded : (e : Engines) (a : Account) → AtMost 2 e → Within a → Bounded (beside_of e a)
unfolding beside_of
beside_bounded e a p w =
    record {
      mass = omega (arith, p.mass, figure_at_lem a w 1);
      length = omega (arith, p.length, figure_at_lem a w 4);
      axles = omega (arith, p.axles, figure_at_lem a w 5);
      engines = omega (arith, p.count, figure_at_lem a w 7);
      braked = omega (arith, p.braked, figure_at_lem a w 2, figure_at_lem a w 3);
      vaxles = omega (arith, p.vaxles, figure_at_lem a w 6);
      slowest = omega (arith, figure_at_lem a w 14);
      dloads = omega (arith, p.dloads, figure_at_lem a w 10);
      isolated = omega (arith, p.isolated, figure_at_lem a w 9);
      engines_braked = omega (arith, p.braked, figure_at_lem a w 2, figure_at_lem a w 21);
      wagons_braked = figure_at_lem a w 22;
      slowest_hauled = figure_at_lem a w 14;
      slowest_working = p.slowest;
    }

pub held_is : (f : Facts) → Bounded f → held f ≡ f
unfolding held
held_is f b =
    λ i.
    record {
      hauledMass = f.hauledMass;
      trainMass = small f.trainMass (omega (arith, b.mass)) i;
      hauledLength = f.hauledLength;
      hauledVLength = f.hauledVLength;
      trainLength = small f.trainLength (omega (arith, b.length)) i;
      axles = small f.axles (omega (arith, b.axles)) i;
      engines = small f.engines (omega (arith, b.engines)) i;
      vmass = small f.vmass (omega (arith, b.braked)) i;
      mmass = small f.mmass (omega (arith, b.braked)) i;
      vaxles = small f.vaxles (omega (arith, b.vaxles)) i;
      longest = f.longest;
      hauledM = f.hauledM;
      workingNotM = f.workingNotM;
      firstFiveV = f.firstFiveV;
      afterFifthM = f.afterFifthM;
      firstIsolated = f.firstIsolated;
      lastIsolated = f.lastIsolated;
      behind = f.behind;
      setR = f.setR;
      notJoined = f.notJoined;
      matrossow = f.matrossow;
      slowest = tiny f.slowest (omega (arith, b.slowest)) i;
      dloads = tiny f.dloads (omega (arith, b.dloads)) i;
      isolated = tiny f.isolated (omega (arith, b.isolated)) i;
      enginesMMass = small f.enginesMMass (omega (arith, b.engines_braked)) i;
      wagonsVMass = f.wagonsVMass;
      hauledEngineNotM = f.hauledEngineNotM;
      long = f.long;
      fewWagons = f.fewWagons;
      slowestHauled = tiny f.slowestHauled (omega (arith, b.slowest_hauled)) i;
      slowestWorking = tiny f.slowestWorking (omega (arith, b.slowest_working)) i;
    }
  where
    small : (x : ℕ) → x < 4294967296 → x % 4294967296 ≡ x
    small x h = omega arith

    tiny : (x : ℕ) → x < 256 → x % 256 ≡ x
    tiny x h = omega arith

-- ---- the length of the hauled set to V
pub v_length_within : (train : List Vehicle) → (facts_of train).hauledVLength ≤ (facts_of train).hauledLength
unfolding facts_of account_of
v_length_within train = v_length_most (hauled_of train)

pub v_length_beside : (engines hauled : List Vehicle) → (facts_beside engines (account_of hauled)).hauledVLength ≤ (facts_beside engines (account_of hauled)).hauledLength
unfolding beside_of
v_length_beside engines hauled = v_length_most hauled
