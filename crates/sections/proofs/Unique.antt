-- No second result, and no second content of the lent bytes, fits a public contract: over the contract's own reading. Assumes nothing.
use mathlib.Core.Path.{◌≡◌, sym, ◌∙◌}
use contract.Lifetimes.{Lfts}
use borrow.Fn.World.{ArgsD, ResD}
use borrow.Fn.Kinds.{ended_of}
use denote.Triple.Clauses.{AtExit}
use Rattle.sections.specs.contracts.section.leading_good as leading-good
use Rattle.sections.proofs.section.leading_good.Kinds as leading-good-kinds
use Rattle.sections.proofs.section.leading_good.Reads as leading-good-reads
use Rattle.sections.specs.contracts.grant.grant_on as grant-on
use Rattle.sections.proofs.grant.grant_on.Kinds as grant-on-kinds
use Rattle.sections.proofs.grant.grant_on.Reads as grant-on-reads
use Rattle.sections.specs.contracts.grant.put_speeds as put-speeds
use Rattle.sections.proofs.grant.put_speeds.Kinds as put-speeds-kinds
use Rattle.sections.proofs.grant.put_speeds.Reads as put-speeds-reads

pub leading_good_unique : (κs : Lfts 1) (a : ArgsD leading-good.signature κs) {r r' : ResD leading-good.signature κs} (s s' : AtExit (ended_of 1 leading-good-kinds.ps leading-good-kinds.r) κs)
    → leading-good-reads.Post κs a r s → leading-good-reads.Post κs a r' s' → r ≡ r'
leading_good_unique κs a s s' p q = p ∙ sym q

pub grant_on_unique : (κs : Lfts 1) (a : ArgsD grant-on.signature κs) {r r' : ResD grant-on.signature κs} (s s' : AtExit (ended_of 1 grant-on-kinds.ps grant-on-kinds.r) κs)
    → grant-on-reads.Post κs a r s → grant-on-reads.Post κs a r' s' → r ≡ r'
grant_on_unique κs a s s' p q = p ∙ sym q

pub put_speeds_unique : (κs : Lfts 2) (a : ArgsD put-speeds.signature κs) {r r' : ResD put-speeds.signature κs} (s s' : AtExit (ended_of 2 put-speeds-kinds.ps put-speeds-kinds.r) κs)
    → put-speeds-reads.Post κs a r s → put-speeds-reads.Post κs a r' s' → s.1.1.1.0.now ≡ s'.1.1.1.0.now
put_speeds_unique κs a s s' p q = p ∙ sym q
