-- `rules::rule::first_rule` meets its contract: the number beside the first mark that is set. Assumes nothing.
use Rattle.std.specs.Option.{option_map}
use Rattle.std.proofs.Common.{rules, tests, ◌≡◌, ◌∙◌, ap}
use Rattle.std.proofs.lemmas.Iterator.{YieldsList-from_slice}
use Rattle.std.proofs.lemmas.Iterator.Search.{find_from_yields_List}
use Rattle.rules.proofs.Rules.{rule_found}
use Rattle.rules.proofs.rule.first_rule.Goals as goal

pub returns : goal.returns
returns c =
    let found = find_from_yields_List (λ r. r.1) _ _ c.find.result c.find.ensures.ran (YieldsList-from_slice c.args.rules.now cc) (λ x b q k. search (rules, tests)) in
    let named : c.map.result ≡ option_map (λ r. r.0) (option_map (λ r. r.now) c.find.result) = search rules in
    named ∙ ap (option_map (λ r. r.0)) found ∙ rule_found c.args.rules.now
