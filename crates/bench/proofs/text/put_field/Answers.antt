-- `bench::text::put_field` meets its contract: the number as it is printed, and the space. Assumes nothing.
use Rattle.std.proofs.Common.{ℕ, List, [], ◌∷◌, ◌++◌, ◌≡◌, ap, ◌∙◌, rules, arith}
use Rattle.bench.proofs.Texts.{field_printed, text_behind}
use Rattle.bench.proofs.text.put_field.Goals as goal

pub returns : goal.returns
returns c =
    let a = c.args in
    let printed : c.try_extend_from_slice.new.self.items ≡ a.line.now.items ++ c.format.result.now = search rules in
    text_behind _ _ _ printed c.push.ensures.items (ap (λ (ds : List ℕ). ds ++ (32 ∷ [])) c.format.ensures.text ∙ field_printed a.n (omega (arith, c.ranges.n)))
