-- No second result, and no second content of the lent sheet, fits a public contract: over the contract's own reading. Assumes nothing.
use mathlib.Core.Path.{◌≡◌, sym, ◌∙◌}
use contract.Lifetimes.{Lfts}
use borrow.Fn.World.{ArgsD, ResD}
use borrow.Fn.Kinds.{ended_of}
use denote.Triple.Clauses.{AtExit}
use Rattle.judge.specs.contracts.train_facts as train-facts
use Rattle.judge.proofs.train_facts.Kinds as train-facts-kinds
use Rattle.judge.proofs.train_facts.Reads as train-facts-reads
use Rattle.judge.specs.contracts.account_facts as account-facts
use Rattle.judge.proofs.account_facts.Kinds as account-facts-kinds
use Rattle.judge.proofs.account_facts.Reads as account-facts-reads
use Rattle.judge.specs.contracts.sheet_of_train as sheet-of-train
use Rattle.judge.proofs.sheet_of_train.Kinds as sheet-of-train-kinds
use Rattle.judge.proofs.sheet_of_train.Reads as sheet-of-train-reads
use Rattle.judge.specs.contracts.sheet_of_account as sheet-of-account
use Rattle.judge.proofs.sheet_of_account.Kinds as sheet-of-account-kinds
use Rattle.judge.proofs.sheet_of_account.Reads as sheet-of-account-reads

pub train_facts_unique : (κs : Lfts 1) (a : ArgsD train-facts.signature κs) {r r' : ResD train-facts.signature κs} (s s' : AtExit (ended_of 1 train-facts-kinds.ps train-facts-kinds.r) κs)
    → train-facts-reads.Post κs a r s → train-facts-reads.Post κs a r' s' → r ≡ r'
train_facts_unique κs a s s' p q = p ∙ sym q

pub account_facts_unique : (κs : Lfts 1) (a : ArgsD account-facts.signature κs) {r r' : ResD account-facts.signature κs} (s s' : AtExit (ended_of 1 account-facts-kinds.ps account-facts-kinds.r) κs)
    → account-facts-reads.Post κs a r s → account-facts-reads.Post κs a r' s' → r ≡ r'
account_facts_unique κs a s s' p q = p ∙ sym q

pub sheet_of_train_unique : (κs : Lfts 3) (a : ArgsD sheet-of-train.signature κs) {r r' : ResD sheet-of-train.signature κs} (s s' : AtExit (ended_of 3 sheet-of-train-kinds.ps sheet-of-train-kinds.r) κs)
    → sheet-of-train-reads.Post κs a r s → sheet-of-train-reads.Post κs a r' s' → (r ≡ r') × (s.1.1.0.now ≡ s'.1.1.0.now)
sheet_of_train_unique κs a s s' p q = (p.0 ∙ sym q.0, p.1 ∙ sym q.1)

pub sheet_of_account_unique : (κs : Lfts 3) (a : ArgsD sheet-of-account.signature κs) {r r' : ResD sheet-of-account.signature κs} (s s' : AtExit (ended_of 3 sheet-of-account-kinds.ps sheet-of-account-kinds.r) κs)
    → sheet-of-account-reads.Post κs a r s → sheet-of-account-reads.Post κs a r' s' → (r ≡ r') × (s.1.1.1.0.now ≡ s'.1.1.1.0.now)
sheet_of_account_unique κs a s s' p q = (p.0 ∙ sym q.0, p.1 ∙ sym q.1)
