-- `sections::grant::in_front` meets its contract: each category alike. Assumes nothing.
use Prim.Native.Nat.{ℕ, ◌<◌}
use native.Mathlib.Omega.{arith}
use mathlib.Core.Path.{◌≡◌, sym, ◌∙◌}
use lib.ListN.{length, get_or}
use Rattle.std.proofs.Common.{rules, tests}
use Rattle.std.proofs.lemmas.List.{same_lists, get_or_default}
use Rattle.rules.specs.Grants.{offer}
use Rattle.sections.specs.Gathering.{offer_in_front, in_front}
use Rattle.sections.proofs.Arrays.{from_fn_at, zipped_at, length_zipped}
use Rattle.sections.proofs.grant.in_front.Goals as goal

pub returns : goal.returns
unfolding in_front
returns c =
    let here = c.args.here in
    let further = c.args.further in
    let none = offer 0 0 0 in
    let six : length c.args.here ≡ 6 = search rules in
    let more : length c.args.further ≡ 6 = search rules in
    let long : length (in_front c.args.here c.args.further) ≡ length c.args.here = length_zipped offer_in_front here further (six ∙ sym more) in
    same_lists c.from_fn.result (in_front here further) (c.from_fn.ensures.items.long ∙ sym six ∙ sym long)
    (λ k d h.
    let below : k < 6 = omega (arith, c.from_fn.ensures.items.long) in
    let within : k < length c.args.here = omega arith in
    let beside : k < length c.args.further = omega arith in
    from_fn_at c.from_fn.ensures.items (λ (i : ℕ). offer_in_front (get_or here i none) (get_or further i none)) (λ i y q called. search (rules, tests)) k d below
    ∙ sym (zipped_at offer_in_front here further k none within beside)
    ∙ get_or_default (in_front here further) k none d (omega (arith, long)))
