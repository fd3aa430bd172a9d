-- `rules::grant::choose` meets its contract: a fold from the last offer to the first. Assumes nothing.
use Rattle.std.specs.Prelude.{None, reverse}
use Rattle.std.specs.List.{fold}
use Rattle.std.proofs.Common.{rules, ◌≡◌, ◌∙◌}
use Rattle.rules.specs.Grants.{better_of}
use Rattle.rules.proofs.Grants.{best_from_last}
use Rattle.rules.proofs.grant.choose.Goals as goal

pub returns : goal.returns
returns c =
    let a = c.args in
    let folded : c.fold.result ≡ fold (λ rest x. better_of a.asked x rest) None (reverse a.offers.now) = search rules in
    folded ∙ best_from_last a.asked a.offers.now
