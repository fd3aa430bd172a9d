-- `sections::section::leading_good` meets its contract: as many are counted as lead. Assumes nothing.
use Rattle.std.proofs.Common.{refl, ap₂, ◌∙◌, rules, tests, ℕ, List}
use Rattle.std.proofs.lemmas.Iterator.{YieldsList-from_slice}
use Rattle.std.proofs.lemmas.Iterator.Search.{YieldsList-from_take_while}
use Rattle.std.proofs.lemmas.Iterator.Consumers.{count_from_yields_List}
use Rattle.std.proofs.lemmas.List.Folds.{length-prefix_len}
use Rattle.lists.specs.Words.{leading}
use Rattle.order.specs.declared.Order.{Order}
use Rattle.sections.specs.Sections.{good_section}
use Rattle.lists.proofs.Lists.{leading_prefix}
use Rattle.sections.proofs.section.leading_good.Goals as goal

pub returns : goal.returns
returns c =
    let first = c.first_section-first.result in
    let sections = c.sections_in.result.now in
    let good = good_section first.asked first.book in
    count_from_yields_List c.take_while.result _ c.count.ensures.ran (YieldsList-from_take_while _ good (YieldsList-from_slice sections cc) c.take_while.ensures.closure c.take_while.ensures.done (λ x b q k. search (rules, tests)))
    ∙ length-prefix_len good sections
    ∙ leading_prefix good good (λ r. refl) sections
    ∙ ap₂ (λ (o : Order) (rs : List (List ℕ)). leading (good_section o.asked o.book) rs) c.first_section-first.ensures c.sections_in.ensures
