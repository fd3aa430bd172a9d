-- `categories::category::Category::line_speed` meets its contract: the first limit from its column on that is not missing. Assumes nothing.
use Rattle.std.specs.Prelude.{drop, not}
use Rattle.std.specs.Option.{unwrap_or}
use Rattle.std.proofs.Common.{rules, tests, ◌∙◌, sym, ap}
use Rattle.std.proofs.lemmas.Iterator.{YieldsList-from_slice}
use Rattle.std.proofs.lemmas.Iterator.Adapters.{YieldsList-from_skip, option_map_id}
use Rattle.std.proofs.lemmas.Iterator.Consumers.{YieldsList-from_copied, YieldsList-at}
use Rattle.std.proofs.lemmas.Iterator.Search.{find_from_yields_List}
use Rattle.lists.specs.Words.{◌is◌}
use Rattle.categories.specs.Categories.{line_speed}
use Rattle.categories.proofs.Firsts.{first_found}
use Rattle.categories.proofs.category.Category.line_speed.Goals as goal

pub returns : goal.returns
unfolding line_speed
returns c =
    let limits = c.args.o.limits in
    let column = c.args.self.column in
    let found =
    find_from_yields_List (λ limit. not (limit is 0)) _ _ c.find.result c.find.ensures.ran
    (YieldsList-from_skip column (YieldsList-at c.skip.ensures.source (YieldsList-from_copied (YieldsList-at c.copied.ensures.source (YieldsList-from_slice limits cc)))) cc)
    (λ x b q k. search (rules, tests)) in
    c.unwrap_or.ensures ∙ ap (λ x. unwrap_or x 0) (sym (option_map_id c.find.result) ∙ found) ∙ first_found (drop column limits)
