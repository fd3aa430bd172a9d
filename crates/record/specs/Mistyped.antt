-- Request Two: "One digit mistyped in the yard brings the wrong brake mass."
use Rattle.std.specs.Prelude.{ℕ, ◌<◌, ◌≡◌, List, [], length, get_or}
use Rattle.closing.specs.Closing.{digits, Slip}
use Rattle.record.specs.Records.{record_count, records_of}
use Rattle.record.specs.Ranges.{value}
use Rattle.record.specs.Vehicles.{nth}

-- the twelve digits of the vehicle number of a record, counted from 0
abbrev pub digits_at : List ℕ → ℕ → List ℕ
digits_at bs i = digits 12 (value (get_or (records_of bs) i []) (nth 0))

-- one digit of the number of record i mistyped: as many bytes, and every other record as it was
pub record Mistyped (bs other : List ℕ) (i : ℕ) : Type 0 where
  pub there : i < record_count bs
  pub long : length other ≡ length bs
  pub elsewhere : (j : ℕ) → (j ≡ i → ⊥) → get_or (records_of other) j [] ≡ get_or (records_of bs) j []
  pub slip : Slip (digits_at bs i) (digits_at other i)
