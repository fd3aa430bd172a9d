-- The vehicle record at the ends of its ranges, its number and its length, as written, so read, a file of records, and what bytes mean: a table and a proof each. Assumes nothing.
use mathlib.Core.Path.{◌≡◌, refl}
use mathlib.Core.List.{map}
use Rattle.lists.specs.Words.{all}
use Rattle.lists.specs.Numbers.{little_endian}
use Rattle.closing.specs.Closing.{closes}
use Rattle.record.specs.Records.{records, record_count, records_of}
use Rattle.record.specs.Vehicles.{good, vehicle, reading, first_bad}
use Rattle.record.specs.Limits.{at_limits, expected, at_byte_limits, expected_bytes, offered, taken, written, says, file, filed, scans, found, meant, meanings}

pub limits : (at_limits ≡ expected) × (at_byte_limits ≡ expected_bytes)
unfolding all little_endian
limits = (refl, refl)

pub whole_and_closing : map good offered ≡ taken
unfolding good all little_endian closes
whole_and_closing = refl

pub read_as_written : map reading written ≡ says
unfolding reading good vehicle all little_endian closes
read_as_written = refl

pub file_in_records : (records_of file ≡ filed) × (record_count file ≡ 2)
unfolding records
file_in_records = (refl, refl)

pub scans_find : scans ≡ found
unfolding first_bad good all little_endian closes
scans_find = refl

pub bytes_mean : meant ≡ meanings
unfolding vehicle little_endian
bytes_mean = refl
