-- No second result fits a public contract: over the contract's own reading. Assumes nothing.
use mathlib.Core.Path.{◌≡◌, sym, ◌∙◌}
use contract.Lifetimes.{Lfts}
use borrow.Fn.World.{ArgsD, ResD}
use borrow.Fn.Kinds.{ended_of}
use denote.Triple.Clauses.{AtExit}
use Rattle.categories.specs.contracts.category.Category.line_speed as line-speed
use Rattle.categories.proofs.category.Category.line_speed.Kinds as line-speed-kinds
use Rattle.categories.proofs.category.Category.line_speed.Reads as line-speed-reads
use Rattle.categories.specs.contracts.category.Category.speed_on as speed-on
use Rattle.categories.proofs.category.Category.speed_on.Kinds as speed-on-kinds
use Rattle.categories.proofs.category.Category.speed_on.Reads as speed-on-reads
use Rattle.categories.specs.contracts.category.Category.speed_for as speed-for
use Rattle.categories.proofs.category.Category.speed_for.Kinds as speed-for-kinds
use Rattle.categories.proofs.category.Category.speed_for.Reads as speed-for-reads
use Rattle.categories.specs.contracts.category.Category.percentage_on as percentage-on
use Rattle.categories.proofs.category.Category.percentage_on.Kinds as percentage-on-kinds
use Rattle.categories.proofs.category.Category.percentage_on.Reads as percentage-on-reads
use Rattle.categories.specs.contracts.category.category_of as category-of
use Rattle.categories.proofs.category.category_of.Kinds as category-of-kinds
use Rattle.categories.proofs.category.category_of.Reads as category-of-reads
use Rattle.categories.specs.contracts.category.Weigh.brakes as brakes
use Rattle.categories.proofs.category.Weigh.brakes.Kinds as brakes-kinds
use Rattle.categories.proofs.category.Weigh.brakes.Reads as brakes-reads
use Rattle.categories.specs.contracts.brake.Brakes.is_short as is-short
use Rattle.categories.proofs.brake.Brakes.is_short.Kinds as is-short-kinds
use Rattle.categories.proofs.brake.Brakes.is_short.Reads as is-short-reads
use Rattle.categories.specs.contracts.brake.margin_for as margin-for
use Rattle.categories.proofs.brake.margin_for.Kinds as margin-for-kinds
use Rattle.categories.proofs.brake.margin_for.Reads as margin-for-reads
use Rattle.categories.specs.contracts.brake.braked_of as braked-of
use Rattle.categories.proofs.brake.braked_of.Kinds as braked-of-kinds
use Rattle.categories.proofs.brake.braked_of.Reads as braked-of-reads

pub line_speed_unique : (κs : Lfts 0) (a : ArgsD line-speed.signature κs) {r r' : ResD line-speed.signature κs} (s s' : AtExit (ended_of 0 line-speed-kinds.ps line-speed-kinds.r) κs)
    → line-speed-reads.Post κs a r s → line-speed-reads.Post κs a r' s' → r ≡ r'
line_speed_unique κs a s s' p q = p ∙ sym q

pub speed_on_unique : (κs : Lfts 0) (a : ArgsD speed-on.signature κs) {r r' : ResD speed-on.signature κs} (s s' : AtExit (ended_of 0 speed-on-kinds.ps speed-on-kinds.r) κs)
    → speed-on-reads.Post κs a r s → speed-on-reads.Post κs a r' s' → r ≡ r'
speed_on_unique κs a s s' p q = p ∙ sym q

pub speed_for_unique : (κs : Lfts 0) (a : ArgsD speed-for.signature κs) {r r' : ResD speed-for.signature κs} (s s' : AtExit (ended_of 0 speed-for-kinds.ps speed-for-kinds.r) κs)
    → speed-for-reads.Post κs a r s → speed-for-reads.Post κs a r' s' → r ≡ r'
speed_for_unique κs a s s' p q = p ∙ sym q

pub percentage_on_unique : (κs : Lfts 0) (a : ArgsD percentage-on.signature κs) {r r' : ResD percentage-on.signature κs} (s s' : AtExit (ended_of 0 percentage-on-kinds.ps percentage-on-kinds.r) κs)
    → percentage-on-reads.Post κs a r s → percentage-on-reads.Post κs a r' s' → r ≡ r'
percentage_on_unique κs a s s' p q = p ∙ sym q

pub category_of_unique : (κs : Lfts 0) (a : ArgsD category-of.signature κs) {r r' : ResD category-of.signature κs} (s s' : AtExit (ended_of 0 category-of-kinds.ps category-of-kinds.r) κs)
    → category-of-reads.Post κs a r s → category-of-reads.Post κs a r' s' → r ≡ r'
category_of_unique κs a s s' p q = p ∙ sym q

pub brakes_unique : (κs : Lfts 0) (a : ArgsD brakes.signature κs) {r r' : ResD brakes.signature κs} (s s' : AtExit (ended_of 0 brakes-kinds.ps brakes-kinds.r) κs)
    → brakes-reads.Post κs a r s → brakes-reads.Post κs a r' s' → r ≡ r'
brakes_unique κs a s s' p q = p ∙ sym q

pub is_short_unique : (κs : Lfts 0) (a : ArgsD is-short.signature κs) {r r' : ResD is-short.signature κs} (s s' : AtExit (ended_of 0 is-short-kinds.ps is-short-kinds.r) κs)
    → is-short-reads.Post κs a r s → is-short-reads.Post κs a r' s' → r ≡ r'
is_short_unique κs a s s' p q = p ∙ sym q

pub margin_for_unique : (κs : Lfts 0) (a : ArgsD margin-for.signature κs) {r r' : ResD margin-for.signature κs} (s s' : AtExit (ended_of 0 margin-for-kinds.ps margin-for-kinds.r) κs)
    → margin-for-reads.Post κs a r s → margin-for-reads.Post κs a r' s' → r ≡ r'
margin_for_unique κs a s s' p q = p ∙ sym q

pub braked_of_unique : (κs : Lfts 0) (a : ArgsD braked-of.signature κs) {r r' : ResD braked-of.signature κs} (s s' : AtExit (ended_of 0 braked-of-kinds.ps braked-of-kinds.r) κs)
    → braked-of-reads.Post κs a r s → braked-of-reads.Post κs a r' s' → r ≡ r'
braked_of_unique κs a s s' p q = p ∙ sym q
