-- The account as one loop gathers it: sums by setting, the other figures, and the first five. Private functions promise it to each other; no public contract reads it.
use Rattle.std.specs.Prelude.{ℕ, ◌+◌, ◌<◌, ◌^◌, min, max, not, ◌&&◌, ◌||◌, Bool, cond, List, [], ◌∷◌, length, get_or, set}
use Rattle.record.specs.Vehicles.{setting_number, is_wagon, is_hauled_engine, is_isolated, is_m, is_v, is_r, is_joined, has_matrossow, has_d_load}
use Rattle.record.specs.declared.vehicle.Vehicle.{Vehicle}
use Rattle.lists.specs.Figures.{sum, count, some, trailing, longest, least, firsts}
use Rattle.account.specs.declared.gather.Sums.{Sums}
use Rattle.account.specs.declared.gather.Gathered.{Gathered}

-- the sums of the vehicles that have p
unfoldable pub sums_of : (Vehicle → Bool) → List Vehicle → Sums
sums_of p xs =
    record {
      count = count p xs;
      vmass = sum (λ v. cond (p v) v.vmass 0) xs;
      mmass = sum (λ v. cond (p v) v.mmass 0) xs;
      axles = sum (λ v. cond (p v) v.axles 0) xs;
      length = sum (λ v. cond (p v) v.length 0) xs;
    }

-- for each setting, in the order of their numbers
abbrev pub sums_by_setting : List Vehicle → List Sums
sums_by_setting xs = sums_of is_isolated xs ∷ sums_of is_m xs ∷ sums_of is_v xs ∷ sums_of is_r xs ∷ []

unfoldable pub gathered : List Vehicle → Gathered
gathered xs =
    record {
      by_setting = sums_by_setting xs;
      count = length xs;
      mass = sum (λ v. v.mass) xs;
      length = sum (λ v. v.length) xs;
      axles = sum (λ v. v.axles) xs;
      engines = count is_hauled_engine xs;
      dloads = count has_d_load xs;
      joined = count is_joined xs;
      trailing = trailing is_isolated xs;
      longest = longest is_isolated xs;
      rule18 = some (λ v. is_wagon v && has_matrossow v && not (is_isolated v)) xs;
      slowest = least 200 (λ v. v.speed) xs;
      first = firsts 5 4 (λ v. setting_number v.setting) xs;
      enginemmass = sum (λ v. cond (is_hauled_engine v && is_m v) v.mmass 0) xs;
      wagonvmass = sum (λ v. cond (is_wagon v && is_m v) v.vmass 0) xs;
      enginenotm = some (λ v. is_hauled_engine v && not (is_m v)) xs;
    }

-- one hauled vehicle more
unfoldable pub sums_with : Sums → Vehicle → Sums
sums_with s v =
    record {
      count = s.count + 1;
      vmass = s.vmass + v.vmass;
      mmass = s.mmass + v.mmass;
      axles = s.axles + v.axles;
      length = s.length + v.length;
    }

abbrev pub sums_at : List Sums → ℕ → Sums
sums_at rows k = get_or rows k (sums_of is_isolated [])

unfoldable pub with_one : Gathered → Vehicle → Gathered
with_one a v =
    record {
      by_setting = set a.by_setting (setting_number v.setting) (sums_with (sums_at a.by_setting (setting_number v.setting)) v);
      count = a.count + 1;
      mass = a.mass + v.mass;
      length = a.length + v.length;
      axles = a.axles + v.axles;
      engines = a.engines + cond (is_hauled_engine v) 1 0;
      dloads = a.dloads + cond (has_d_load v) 1 0;
      joined = a.joined + cond (is_joined v) 1 0;
      trailing = cond (is_isolated v) (a.trailing + 1) 0;
      longest = max a.longest (cond (is_isolated v) (a.trailing + 1) 0);
      rule18 = a.rule18 || (is_wagon v && has_matrossow v && not (is_isolated v));
      slowest = min a.slowest v.speed;
      first = set a.first a.count (setting_number v.setting);
      enginemmass = a.enginemmass + cond (is_hauled_engine v && is_m v) v.mmass 0;
      wagonvmass = a.wagonvmass + cond (is_wagon v && is_m v) v.vmass 0;
      enginenotm = a.enginenotm || (is_hauled_engine v && not (is_m v));
    }

-- what the additions ask for
pub record SumsRoom (s : Sums) (v : Vehicle) : Type 0 where
  pub count : s.count + 1 < 2 ^ 32
  pub vmass : s.vmass + v.vmass < 2 ^ 32
  pub mmass : s.mmass + v.mmass < 2 ^ 32
  pub axles : s.axles + v.axles < 2 ^ 32
  pub length : s.length + v.length < 2 ^ 32

pub record Room (a : Gathered) (v : Vehicle) : Type 0 where
  pub sums : SumsRoom (sums_at a.by_setting (setting_number v.setting)) v
  pub count : a.count + 1 < 2 ^ 32
  pub mass : a.mass + v.mass < 2 ^ 32
  pub length : a.length + v.length < 2 ^ 32
  pub axles : a.axles + v.axles < 2 ^ 32
  pub engines : a.engines + 1 < 2 ^ 32
  pub dloads : a.dloads + 1 < 2 ^ 32
  pub joined : a.joined + 1 < 2 ^ 32
  pub trailing : a.trailing + 1 < 2 ^ 32
  pub enginemmass : a.enginemmass + cond (is_hauled_engine v && is_m v) v.mmass 0 < 2 ^ 32
  pub wagonvmass : a.wagonvmass + cond (is_wagon v && is_m v) v.vmass 0 < 2 ^ 32
