-- `domestic::grant::decide_domestic` meets its contract: the best of what the six categories offer. Assumes nothing.
use native.Mathlib.Omega.{arith}
use mathlib.Core.Path.{◌≡◌, ap₂, ◌∙◌}
use mathlib.Core.List.{[], ◌∷◌}
use Rattle.facts.specs.declared.Facts.{Facts}
use Rattle.order.specs.declared.Order.{Order}
use Rattle.categories.specs.declared.category.Category.{Category}
use Rattle.rules.specs.Grants.{offer_of, decided_by, decision_of}
use Rattle.rules.specs.declared.grant.Offer.{Offer}
use Rattle.rules.proofs.Offers.{decided_whole}
use Rattle.domestic.specs.Rules.{domestic}
use Rattle.domestic.proofs.grant.decide_domestic.Goals as goal

pub returns : goal.returns
unfolding decision_of domestic
returns c =
    let a = c.args in
    let me = c.new-me.ensures in
    let ma = c.new-ma.ensures in
    let of_me : (x : Offer) (row : Category) → x ≡ offer_of domestic c.new-me.result.facts c.new-me.result.order row → x ≡ offer_of domestic a.f a.o row =
    λ x row e. e ∙ ap₂ (λ (f : Facts) (o : Order). offer_of domestic f o row) me.2 me.3 in
    let of_ma : (x : Offer) (row : Category) → x ≡ offer_of domestic c.new-ma.result.facts c.new-ma.result.order row → x ≡ offer_of domestic a.f a.o row =
    λ x row e. e ∙ ap₂ (λ (f : Facts) (o : Order). offer_of domestic f o row) ma.2 ma.3 in
    let x1 = of_me _ _ c.offered.ensures in
    let x2 = of_me _ _ c.offered-2.ensures in
    let x3 = of_me _ _ c.offered-3.ensures in
    let x4 = of_ma _ _ c.offered-4.ensures in
    let x5 = of_ma _ _ c.offered-5.ensures in
    let x6 = of_ma _ _ c.offered-6.ensures in
    c.decided.ensures ∙ (λ i. decided_by a.o.asked (x1 i ∷ x2 i ∷ x3 i ∷ x4 i ∷ x5 i ∷ x6 i ∷ [])) ∙ decided_whole domestic a.f a.o (omega arith)
