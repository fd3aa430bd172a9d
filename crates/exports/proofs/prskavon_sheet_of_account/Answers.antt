-- `exports::prskavon_sheet_of_account` meets its contract: it is the judging library's. Assumes nothing.
use Rattle.exports.proofs.Lent.{account_placed}
use Rattle.exports.proofs.prskavon_sheet_of_account.Goals as goal

pub sheet_number-requires : goal.sheet_number-requires
sheet_number-requires c = rw c.sheet_of_account.ensures.value (account_placed _ _ _ _)
