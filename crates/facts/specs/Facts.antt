-- The facts of a train that the rules and the sheet read: over its records, and beside its working engines from an account.
use Rattle.std.specs.Prelude.{ℕ, ◌+◌, ◌%◌, ◌≤◌, min, ◌≡◌, true, not, ◌&&◌, ◌||◌, cond, List, length, take, drop}
use Rattle.lists.specs.Words.{◌above◌, leading}
use Rattle.record.specs.Vehicles.{is_wagon, is_hauled_engine, is_working, is_isolated, is_m, is_v, is_r, is_joined, has_matrossow, has_d_load}
use Rattle.record.specs.declared.vehicle.Vehicle.{Vehicle}
use Rattle.lists.specs.Figures.{sum, count, some, longest, behind, least}
use Rattle.facts.specs.Readings.{first_isolated, first_isolated_by, last_isolated, last_isolated_by, first_five_v, first_five_v_by, after_fifth_m, after_fifth_m_by, is_long, is_long_by, few_wagons, few_wagons_by}
use Rattle.account.specs.declared.Account.{Account}
use Rattle.facts.specs.Engines.{engines_of}
use Rattle.facts.specs.declared.Facts.{Facts}
use Rattle.facts.specs.declared.engine.Engines.{Engines}

-- "Its working engines are the leading records of kind 2; the rest is hauled."
abbrev pub working_of : List Vehicle → List Vehicle
working_of train = take (leading is_working train) train

abbrev pub hauled_of : List Vehicle → List Vehicle
hauled_of train = drop (leading is_working train) train

abbrev pub Working : Vehicle → Type 0
Working v = is_working v ≡ true

-- in rules and sheet a record is any of the train
unfoldable pub facts_of : List Vehicle → Facts
facts_of train =
    record {
      hauledMass = sum (λ v. v.mass) (hauled_of train);
      trainMass = sum (λ v. v.mass) train;
      hauledLength = sum (λ v. v.length) (hauled_of train);
      -- of the hauled set to V, no working engine (note 7)
      hauledVLength = sum (λ v. cond (is_v v) v.length 0) (hauled_of train);
      trainLength = sum (λ v. v.length) train;
      axles = sum (λ v. v.axles) train;
      -- engines, working and hauled
      engines = length (working_of train) + count is_hauled_engine (hauled_of train);
      -- V masses and axles of records set to V, M masses of records set to M
      vmass = sum (λ v. cond (is_v v) v.vmass 0) train;
      mmass = sum (λ v. cond (is_m v) v.mmass 0) train;
      vaxles = sum (λ v. cond (is_v v) v.axles 0) train;
      longest = longest is_isolated (hauled_of train);
      hauledM = some is_m (hauled_of train);
      workingNotM = some (λ v. not (is_m v)) (working_of train);
      firstFiveV = first_five_v (hauled_of train);
      afterFifthM = after_fifth_m (hauled_of train);
      firstIsolated = first_isolated (hauled_of train);
      lastIsolated = last_isolated (hauled_of train);
      behind = behind is_wagon is_hauled_engine train;
      setR = some is_r train;
      notJoined = some (λ v. not (is_joined v)) train;
      matrossow = some (λ v. is_wagon v && has_matrossow v && not (is_isolated v)) train;
      slowest = least 200 (λ v. v.speed) train;
      dloads = count has_d_load train;
      isolated = count is_isolated train;
      -- request Six: M masses of engines set to M, working and hauled; V masses of wagons set to M
      enginesMMass = sum (λ v. cond (is_m v) v.mmass 0) (working_of train) + sum (λ v. cond (is_hauled_engine v && is_m v) v.mmass 0) (hauled_of train);
      wagonsVMass = sum (λ v. cond (is_wagon v && is_m v) v.vmass 0) (hauled_of train);
      hauledEngineNotM = some (λ v. is_hauled_engine v && not (is_m v)) (hauled_of train);
      long = is_long (working_of train) (hauled_of train);
      fewWagons = few_wagons (hauled_of train);
      slowestHauled = least 200 (λ v. v.speed) (hauled_of train);
      slowestWorking = least 200 (λ v. v.speed) (working_of train);
    }

-- beside the engines' figures, the facts that an account's figures give
unfoldable pub beside_of : Engines → Account → Facts
beside_of e a =
    record {
      hauledMass = a.mass;
      trainMass = e.mass + a.mass;
      hauledLength = a.length;
      hauledVLength = a.vlength;
      trainLength = e.length + a.length;
      axles = e.axles + a.axles;
      engines = e.count + a.engines;
      vmass = e.vmass + a.vmass;
      mmass = e.mmass + a.mmass;
      vaxles = e.vaxles + a.vaxles;
      longest = a.longest;
      hauledM = a.mset above 0;
      workingNotM = e.notm;
      firstFiveV = first_five_v_by a;
      afterFifthM = after_fifth_m_by a;
      firstIsolated = first_isolated_by a;
      lastIsolated = last_isolated_by a;
      behind = a.behind;
      setR = e.setr || a.rule16;
      notJoined = e.unjoined || a.rule17;
      matrossow = a.rule18;
      slowest = min e.slowest a.slowest;
      dloads = e.dloads + a.dloads;
      isolated = e.isolated + a.isolated;
      enginesMMass = e.mmass + a.enginemmass;
      wagonsVMass = a.wagonvmass;
      hauledEngineNotM = a.enginenotm;
      long = is_long_by e a;
      fewWagons = few_wagons_by a;
      slowestHauled = a.slowest;
      slowestWorking = e.slowest;
    }

abbrev pub facts_beside : List Vehicle → Account → Facts
facts_beside working a = beside_of (engines_of working) a

-- a figure in 32 bits, and in a byte
abbrev pub word : ℕ → ℕ
word x = x % 4294967296

abbrev pub byte : ℕ → ℕ
byte x = x % 256

-- the facts as they are held: every sum in 32 bits, speeds, D loads and isolated records in a byte; those of any train or account that is judged stand as they are
unfoldable pub held : Facts → Facts
held f =
    record {
      hauledMass = f.hauledMass;
      trainMass = word f.trainMass;
      hauledLength = f.hauledLength;
      hauledVLength = f.hauledVLength;
      trainLength = word f.trainLength;
      axles = word f.axles;
      engines = word f.engines;
      vmass = word f.vmass;
      mmass = word f.mmass;
      vaxles = word f.vaxles;
      longest = f.longest;
      hauledM = f.hauledM;
      workingNotM = f.workingNotM;
      firstFiveV = f.firstFiveV;
      afterFifthM = f.afterFifthM;
      firstIsolated = f.firstIsolated;
      lastIsolated = f.lastIsolated;
      behind = f.behind;
      setR = f.setR;
      notJoined = f.notJoined;
      matrossow = f.matrossow;
      slowest = byte f.slowest;
      dloads = byte f.dloads;
      isolated = byte f.isolated;
      enginesMMass = word f.enginesMMass;
      wagonsVMass = f.wagonsVMass;
      hauledEngineNotM = f.hauledEngineNotM;
      long = f.long;
      fewWagons = f.fewWagons;
      slowestHauled = byte f.slowestHauled;
      slowestWorking = byte f.slowestWorking;
    }

-- what the facts of a good train, and of engines beside an account within its ceilings, are at most
pub record Bounded (f : Facts) : Type 0 where
  pub mass : f.trainMass ≤ 505000
  pub length : f.trainLength ≤ 205000
  pub axles : f.axles ≤ 9800
  pub engines : f.engines ≤ 202
  pub braked : f.vmass + f.mmass ≤ 1005000
  pub vaxles : f.vaxles ≤ 9800
  pub slowest : f.slowest ≤ 200
  pub dloads : f.dloads ≤ 202
  pub isolated : f.isolated ≤ 202
  pub engines_braked : f.vmass + f.enginesMMass ≤ 1005000
  pub wagons_braked : f.wagonsVMass ≤ 500000
  pub slowest_hauled : f.slowestHauled ≤ 200
  pub slowest_working : f.slowestWorking ≤ 200
