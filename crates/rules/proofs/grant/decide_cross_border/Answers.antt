-- `rules::grant::decide_cross_border` meets its contract: the best of what the five categories offer. Assumes nothing.
use native.Mathlib.Omega.{arith}
use mathlib.Core.Path.{◌≡◌, ap₂, ◌∙◌}
use mathlib.Core.List.{[], ◌∷◌}
use Rattle.facts.specs.declared.Facts.{Facts}
use Rattle.order.specs.declared.Order.{Order}
use Rattle.categories.specs.declared.category.Category.{Category}
use Rattle.rules.specs.CrossBorder.{cross_border}
use Rattle.rules.specs.Grants.{offer_of, absent, decided_by, decision_of}
use Rattle.rules.specs.declared.grant.Offer.{Offer}
use Rattle.rules.proofs.Offers.{decided_whole}
use Rattle.rules.proofs.grant.decide_cross_border.Goals as goal

pub returns : goal.returns
unfolding decision_of cross_border
returns c =
    let a = c.args in
    let p = c.new-p.ensures in
    let g = c.new-g.ensures in
    let of_p : (x : Offer) (row : Category) → x ≡ offer_of cross_border c.new-p.result.facts c.new-p.result.order row → x ≡ offer_of cross_border a.f a.o row =
    λ x row e. e ∙ ap₂ (λ (f : Facts) (o : Order). offer_of cross_border f o row) p.2 p.3 in
    let of_g : (x : Offer) (row : Category) → x ≡ offer_of cross_border c.new-g.result.facts c.new-g.result.order row → x ≡ offer_of cross_border a.f a.o row =
    λ x row e. e ∙ ap₂ (λ (f : Facts) (o : Order). offer_of cross_border f o row) g.2 g.3 in
    let x1 = of_p _ _ c.offered.ensures in
    let x2 = of_p _ _ c.offered-2.ensures in
    let x3 = of_p _ _ c.offered-3.ensures in
    let x4 = of_g _ _ c.offered-4.ensures in
    let x5 = of_g _ _ c.offered-5.ensures in
    c.decided.ensures ∙ (λ i. decided_by a.o.asked (x1 i ∷ x2 i ∷ x3 i ∷ x4 i ∷ x5 i ∷ absent ∷ [])) ∙ decided_whole cross_border a.f a.o (omega arith)
