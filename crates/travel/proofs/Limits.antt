-- The 128 bytes of an account, its marks, and bytes that are an account or none: a table and a proof each about the definitions. Assumes nothing.
use mathlib.Core.Path.{◌≡◌, refl}
use Rattle.lists.specs.Words.{all}
use Rattle.lists.specs.Numbers.{little_endian}
use Rattle.account.specs.Ceilings.{within}
use Rattle.travel.specs.AccountRecords.{account_in, is_plain, offered, record_of}
use Rattle.travel.specs.Limits.{travelling, written, marks, marks_written, at_limits, expected}

pub as_written : (record_of travelling ≡ written) × (offered written ≡ travelling)
unfolding offered is_plain account_in all little_endian
as_written = (refl, refl)

pub marks_as_written : marks ≡ marks_written
marks_as_written = refl

pub limits : at_limits ≡ expected
unfolding is_plain account_in within all little_endian
limits = refl
