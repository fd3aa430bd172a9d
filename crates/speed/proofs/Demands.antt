-- Document 01, "The vehicle that holds the speed": the theorems, over the definitions of specs/. Assumes nothing.
use Prim.Native.Nat.{ℕ, ◌+◌, ◌≤◌, ◌<◌}
use mathlib.Core.Path.{◌≡◌, refl, sym}
use mathlib.Core.Bool.{true, false, ◌&&◌}
use mathlib.Core.List.{List, [], ◌++◌}
use mathlib.Core.Logic.{◌⊎◌}
use lib.ListN.{length}
use Rattle.lists.specs.Words.{all}
use Rattle.record.specs.Records.{record_count, records, records_of}
use Rattle.speed.specs.Speed.{first_with, whole_good, slowest_of, holds_the_speed, Holds}
use Rattle.speed.proofs.Speeds as speeds
use Rattle.speed.proofs.Speeds.{holds_is, two_hold, two_24, speed_bad, speed_many}

-- it is a record of the two portions, least, and first at a tie
pub holds_the_speed_lem : (front back : List ℕ) → (whole_good front && whole_good back) ≡ true → 0 < record_count front + record_count back → record_count front + record_count back ≤ 200
    → Holds (records_of front ++ records_of back) (holds_the_speed front back)
holds_the_speed_lem = two_hold

-- and no other record does
pub no_other_holds : (rs : List (List ℕ)) (r : List ℕ) → Holds rs r → slowest_of rs ≡ r
no_other_holds = holds_is

-- an empty part where both are empty, where a portion is not whole good records, and where they pass 200 together
pub empty_of_none : holds_the_speed [] [] ≡ []
unfolding holds_the_speed whole_good slowest_of first_with all records
empty_of_none = refl

pub empty_of_bad : (front back : List ℕ) → (whole_good front && whole_good back) ≡ false → holds_the_speed front back ≡ []
empty_of_bad front back e = sym (speed_bad front back e)

pub empty_of_many : (front back : List ℕ) → 200 < record_count front + record_count back → holds_the_speed front back ≡ []
empty_of_many front back h = sym (speed_many front back h)

-- else a record's 24 bytes
pub else_24 : (front back : List ℕ) → (whole_good front && whole_good back) ≡ true → 0 < record_count front + record_count back → record_count front + record_count back ≤ 200
    → length (holds_the_speed front back) ≡ 24
else_24 = two_24

-- so its 24 bytes or none, of any two portions
pub vehicle_or_none : (front back : List ℕ) → (length (holds_the_speed front back) ≡ 24) ⊎ (holds_the_speed front back ≡ [])
vehicle_or_none = speeds.vehicle_or_none
