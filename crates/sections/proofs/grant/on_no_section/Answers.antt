-- `sections::grant::on_no_section` meets its contract: each category alike, in each book. Assumes nothing.
use Prim.Native.Nat.{ℕ}
use mathlib.Core.Path.{refl, ◌∙◌}
use Rattle.std.proofs.Common.{rules, tests}
use Rattle.categories.specs.Categories.{category_of, rows_of}
use Rattle.sections.specs.Gathering.{unbroken}
use Rattle.sections.proofs.Arrays.{array_map}
use Rattle.sections.proofs.Gathers.{offers_start}
use Rattle.sections.proofs.grant.on_no_section.Goals as goal

pub returns : goal.returns
returns c f =
    let b = c.args.book in
    array_map c.map.ensures.items (λ (n : ℕ). unbroken (category_of n (rows_of b))) (λ x y q k. search (rules, tests)) 0 refl ∙ offers_start b f
