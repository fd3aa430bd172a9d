-- Document 01: "The vehicle that holds the speed is the one with the least byte 20."
use Rattle.std.specs.Prelude.{ℕ, ◌+◌, ◌≤◌, ◌<◌, ◌≡◌, Bool, ◌&&◌, cond, List, [], ◌∷◌, ◌++◌, length, get_or}
use Rattle.lists.specs.Words.{◌at_most◌, ◌above◌, all}
use Rattle.record.specs.Records.{record_count, records_of, is_whole}
use Rattle.record.specs.Vehicles.{good}

-- the first record that has p, and no byte where there is none
unfoldable pub first_with : (List ℕ → Bool) → List (List ℕ) → List ℕ
first_with p [] = []
first_with p (r ∷ rs) = cond (p r) r (first_with p rs)

abbrev pub byte20 : List ℕ → ℕ
byte20 r = get_or r 20 0

-- the slower of a record and the next behind it, and the first where they are alike
abbrev pub slower : List ℕ → List ℕ → List ℕ
slower best next = cond (byte20 best above byte20 next) next best

-- the least byte 20 of the records, the first in the train at a tie
unfoldable pub slowest_of : List (List ℕ) → List ℕ
slowest_of rs = first_with (λ r. all (λ other. byte20 r at_most byte20 other) rs) rs

-- whole good records of any kind
unfoldable pub whole_good : List ℕ → Bool
whole_good bs = is_whole bs && all good (records_of bs)

-- out of whichever portion has it; an empty part if both are empty, a portion is not whole good records, or they pass 200 together
unfoldable pub holds_the_speed : List ℕ → List ℕ → List ℕ
holds_the_speed front back =
    cond (whole_good front && whole_good back && record_count front + record_count back at_most 200)
    (slowest_of (records_of front ++ records_of back))
    []

-- r is the record that holds the speed of rs: at a place, least, and slower than each before it
pub record Holds (rs : List (List ℕ)) (r : List ℕ) : Type 0 where
  pub place : ℕ
  pub within : place < length rs
  pub there : r ≡ get_or rs place []
  pub least : (j : ℕ) → j < length rs → byte20 r ≤ byte20 (get_or rs j [])
  pub first : (j : ℕ) → j < place → byte20 r < byte20 (get_or rs j [])
