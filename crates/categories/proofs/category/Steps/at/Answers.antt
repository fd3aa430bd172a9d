-- `categories::category::Steps::at` meets its contract: the first step that the length is at most. Assumes nothing.
use Rattle.std.proofs.Common.{rules, tests}
use Rattle.std.proofs.lemmas.Iterator.{YieldsList-from_slice}
use Rattle.std.proofs.lemmas.Iterator.Search.{find_from_yields_List}
use Rattle.lists.specs.Words.{◌at_most◌}
use Rattle.categories.proofs.Firsts.{step_found}
use Rattle.categories.proofs.category.Steps.at.Goals as goal

pub returns : goal.returns
returns c =
    let a = c.args in
    let found =
    find_from_yields_List (λ step. a.length at_most step.0) _ _ c.find.result c.find.ensures.ran (YieldsList-from_slice a.self.up_to cc)
    (λ x b q k. search (rules, tests)) in
    step_found a.self.beyond a.length a.self.up_to c.find.result found c.map_or.result (search rules)
