-- `domestic::family::Family::broken_by` meets its contract: the lowest bit of the family's word with the category's own is the first rule broken. Assumes nothing.
use Prim.Native.Nat.{ℕ, ◌+◌}
use mathlib.Core.Bool.{Bool, not}
use borrow.Author.Tests.{eq-eqb, ne_eqb}
use mathlib.Core.Path.{◌≡◌, sym, ap, ap₂, ◌∙◌}
use lib.Count.{count_trailing_zeros}
use lib.ListN.{get_or}
use Rattle.categories.specs.Brakes.{margin_for}
use Rattle.rules.specs.Rules.{numbers_of, is_short}
use Rattle.domestic.specs.Rules.{domestic_rules, terms_of}
use Rattle.domestic.specs.Words.{base_of, own_me, own_ma}
use Rattle.domestic.proofs.Rules.{me_first, ma_first}
use Rattle.domestic.proofs.family.Family.broken_by.Goals as goal

pub returns-then-this-ne0 : goal.returns-then-this-ne0
unfolding margin_for
returns-then-this-ne0 g c =
    let a = c.args in
    let m = a.self.now in
    let terms = terms_of a.c m.facts m.order in
    let base = m.base_is ∙ ap (λ (isma : Bool). base_of isma m.facts m.order) (c.requires.alike.1 ∙ sym c.requires.alike.0) in
    let short : c.is_short-short.result ≡ is_short a.c m.facts m.order = rw (c.is_short-short.ensures, m.brakes_are, ← c.requires.alike.2) in
    let own = c.own_ma.ensures.0 ∙ (λ i. own_ma a.c.speed (c.requires.line_value i) (short i) m.facts) in
    c.number_at.ensures terms m.facts
    ∙ ap (λ (w : ℕ). get_or (numbers_of (domestic_rules terms m.facts)) (count_trailing_zeros 32 w) 0) (ap₂ ◌+◌ base own)
    ∙ ma_first a.c m.facts m.order (c.requires.alike.0 ∙ ap not (ne_eqb g.row.MA 0 c.if-this-ne0.true))

pub returns-else-this-ne0 : goal.returns-else-this-ne0
unfolding margin_for
returns-else-this-ne0 g c =
    let a = c.args in
    let m = a.self.now in
    let terms = terms_of a.c m.facts m.order in
    let base = m.base_is ∙ ap (λ (isma : Bool). base_of isma m.facts m.order) (c.requires.alike.1 ∙ sym c.requires.alike.0) in
    let short : c.is_short-short.result ≡ is_short a.c m.facts m.order = rw (c.is_short-short.ensures, m.brakes_are, ← c.requires.alike.2) in
    let own = c.own_me.ensures.0 ∙ (λ i. own_me a.c.speed (c.alone_above.ensures i) (c.requires.line_value i) (short i) m.facts) in
    c.number_at-else-this-ne0.ensures terms m.facts
    ∙ ap (λ (w : ℕ). get_or (numbers_of (domestic_rules terms m.facts)) (count_trailing_zeros 32 w) 0) (ap₂ ◌+◌ base own)
    ∙ me_first a.c m.facts m.order (c.requires.alike.0 ∙ ap not (eq-eqb g.row.MA 0 c.if-this-ne0.false))
