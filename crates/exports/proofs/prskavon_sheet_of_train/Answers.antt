-- `exports::prskavon_sheet_of_train` meets its contract: it is the judging library's. Assumes nothing.
use Rattle.exports.proofs.Lent.{train_placed}
use Rattle.exports.proofs.prskavon_sheet_of_train.Goals as goal

pub sheet_number-requires : goal.sheet_number-requires
sheet_number-requires c = rw c.sheet_of_train.ensures.value (train_placed _ _ _)
