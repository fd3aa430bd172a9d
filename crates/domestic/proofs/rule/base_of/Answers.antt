-- `domestic::rule::base_of` meets its contract: the word at the still terms, of 29 bits. Assumes nothing.
use native.Mathlib.Omega.{arith}
use mathlib.Core.Path.{ap, ◌∙◌}
use Rattle.rules.specs.Rules.{marks_of}
use Rattle.domestic.specs.Rules.{domestic_rules}
use Rattle.domestic.specs.Words.{word_of, still_of, base_of}
use Rattle.domestic.specs.declared.rule.Terms.{Terms}
use Rattle.domestic.proofs.Words.{word_lt}
use Rattle.domestic.proofs.rule.base_of.Goals as goal

pub returns : goal.returns
unfolding base_of
returns c =
    let a = c.args in
    let e = c.word_of.ensures ∙ ap word_of (c.marks_of.ensures ∙ ap (λ (t : Terms). marks_of (domestic_rules t a.f)) c.still_terms.ensures) in
    (e, omega (arith, e, word_lt (marks_of (domestic_rules (still_of a.isma a.f a.o) a.f))))
