-- The working engines' own figures.
use Rattle.std.specs.Prelude.{ℕ, ◌+◌, ◌≤◌, min, ◌≡◌, true, not, ◌||◌, cond, Option, Some, None, List, [], ◌∷◌, ◌++◌, length, take, drop}
use Rattle.lists.specs.Words.{all}
use Rattle.record.specs.Records.{records_of, is_whole}
use Rattle.record.specs.Vehicles.{good, reading, is_isolated, is_m, is_v, is_r, is_joined, has_d_load}
use Rattle.record.specs.declared.vehicle.Vehicle.{Vehicle}
use Rattle.lists.specs.Figures.{sum, count, some, least}
use Rattle.facts.specs.declared.engine.Engines.{Engines}

unfoldable pub engines_of : List Vehicle → Engines
engines_of working =
    record {
      count = length working;
      mass = sum (λ v. v.mass) working;
      length = sum (λ v. v.length) working;
      axles = sum (λ v. v.axles) working;
      vmass = sum (λ v. cond (is_v v) v.vmass 0) working;
      mmass = sum (λ v. cond (is_m v) v.mmass 0) working;
      vaxles = sum (λ v. cond (is_v v) v.axles 0) working;
      notm = some (λ v. not (is_m v)) working;
      setr = some is_r working;
      unjoined = some (λ v. not (is_joined v)) working;
      slowest = least 200 (λ v. v.speed) working;
      dloads = count has_d_load working;
      isolated = count is_isolated working;
    }

-- the vehicle of a reading, where it is good
abbrev pub taken : Option Vehicle → List Vehicle
taken (Some v) = v ∷ []
taken None = []

-- the engines that one or two records say
unfoldable pub engines_in : List ℕ → List Vehicle
engines_in bs = taken (reading (take 24 bs)) ++ taken (reading (drop 24 bs))

-- one or two whole good records
pub record GoodEngines (bs : List ℕ) : Type 0 where
  pub whole : is_whole bs ≡ true
  pub some : 24 ≤ length bs
  pub few : length bs ≤ 48
  pub each : all good (records_of bs) ≡ true

-- the figures of two lists of engines together
unfoldable pub both_of : Engines → Engines → Engines
both_of a b =
    record {
      count = a.count + b.count;
      mass = a.mass + b.mass;
      length = a.length + b.length;
      axles = a.axles + b.axles;
      vmass = a.vmass + b.vmass;
      mmass = a.mmass + b.mmass;
      vaxles = a.vaxles + b.vaxles;
      notm = a.notm || b.notm;
      setr = a.setr || b.setr;
      unjoined = a.unjoined || b.unjoined;
      slowest = min a.slowest b.slowest;
      dloads = a.dloads + b.dloads;
      isolated = a.isolated + b.isolated;
    }
