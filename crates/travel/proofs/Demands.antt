-- What holds of an account that travels: the theorems, over the definitions of specs/. Assumes nothing.
use Prim.Native.Nat.{ℕ, ◌≤◌}
use mathlib.Core.Path.{◌≡◌, refl}
use mathlib.Core.List.{List}
use lib.ListN.{length}
use Rattle.lists.specs.Words.{Every}
use Rattle.account.specs.Ceilings.{within, Within}
use Rattle.account.specs.declared.Account.{Account}
use Rattle.travel.specs.AccountRecords.{is_account, offered, record_of}
use Rattle.travel.proofs.AccountRecords.{offered_within, record_back, record_within, within_small}

-- an account reads back as itself, where its five first settings are at most 255
pub read_back : (a : Account) → length a.first ≡ 5 → Every (λ s. s ≤ 255) a.first → offered (record_of a) ≡ a
read_back = record_back

-- so does every account within its ceilings
pub read_back_within : (a : Account) → length a.first ≡ 5 → Within a → offered (record_of a) ≡ a
read_back_within a h w = record_back a h (within_small a h w)

-- and every account reads back within its ceilings exactly when it is within them
pub within_back : (a : Account) → within (offered (record_of a)) ≡ within a
within_back = record_within

-- what bytes offer is within its ceilings exactly when they are 128 and no figure, mark or unused byte is above its ceiling
pub within_exactly : (bs : List ℕ) → within (offered bs) ≡ is_account bs
within_exactly = offered_within

pub one_hundred_and_twenty_eight : (a : Account) → length (record_of a) ≡ 128
one_hundred_and_twenty_eight a = refl
