-- Document 01, "The account": each figure of hauled records in order, over the records themselves.
use Rattle.std.specs.Prelude.{ℕ, not, ◌&&◌, cond, List, [], ◌∷◌, length}
use Rattle.lists.specs.Words.{leading}
use Rattle.record.specs.Vehicles.{setting_number, is_wagon, is_hauled_engine, is_isolated, is_m, is_v, is_r, is_joined, has_matrossow, has_d_load}
use Rattle.record.specs.declared.vehicle.Vehicle.{Vehicle}
use Rattle.lists.specs.Figures.{sum, count, some, trailing, longest, behind, least, firsts}
use Rattle.account.specs.declared.Account.{Account}

unfoldable pub account_of : List Vehicle → Account
account_of xs =
    record {
      count = length xs;
      mass = sum (λ v. v.mass) xs;
      -- V masses set to V, M masses set to M
      vmass = sum (λ v. cond (is_v v) v.vmass 0) xs;
      mmass = sum (λ v. cond (is_m v) v.mmass 0) xs;
      length = sum (λ v. v.length) xs;
      -- axles, and those set to V
      axles = sum (λ v. v.axles) xs;
      vaxles = sum (λ v. cond (is_v v) v.axles 0) xs;
      engines = count is_hauled_engine xs;
      -- records set to M
      mset = count is_m xs;
      isolated = count is_isolated xs;
      dloads = count has_d_load xs;
      -- runs of isolated
      leading = leading is_isolated xs;
      trailing = trailing is_isolated xs;
      longest = longest is_isolated xs;
      -- an engine stands behind a wagon
      behind = behind is_wagon is_hauled_engine xs;
      -- 16: set to R; 17: not joined to the pipe; 18: a wagon with byte 21 set that is not isolated
      rule16 = some is_r xs;
      rule17 = some (λ v. not (is_joined v)) xs;
      rule18 = some (λ v. is_wagon v && has_matrossow v && not (is_isolated v)) xs;
      -- the empty account has 200
      slowest = least 200 (λ v. v.speed) xs;
      -- the settings of the first five, 4 where there is none
      first = firsts 5 4 (λ v. setting_number v.setting) xs;
      -- length of records set to V (request Three)
      vlength = sum (λ v. cond (is_v v) v.length 0) xs;
      -- M masses of hauled engines set to M; V masses of wagons set to M; a hauled engine is not set to M (request Six)
      enginemmass = sum (λ v. cond (is_hauled_engine v && is_m v) v.mmass 0) xs;
      wagonvmass = sum (λ v. cond (is_wagon v && is_m v) v.vmass 0) xs;
      enginenotm = some (λ v. is_hauled_engine v && not (is_m v)) xs;
    }

-- the account of no vehicle
abbrev pub empty : Account
empty = account_of []

-- the sums among the figures
abbrev pub sums : Account → List ℕ
sums a =
    a.count ∷ a.mass ∷ a.vmass ∷ a.mmass ∷ a.length ∷ a.axles ∷ a.vaxles ∷ a.engines ∷ a.mset ∷ a.isolated ∷ a.dloads ∷ a.vlength ∷ a.enginemmass ∷ a.wagonvmass ∷ []
