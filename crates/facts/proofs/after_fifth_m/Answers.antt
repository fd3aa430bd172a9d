-- `facts::after_fifth_m` meets its contract: what the chain counts is what lists count. Assumes nothing.
use Rattle.std.proofs.Common.{rules, ◌≡◌, ℕ, nat_lt, count_by, ap, ◌∙◌, ◌==◌}
use Rattle.facts.proofs.Counts.{counted}
use Rattle.facts.proofs.after_fifth_m.Goals as goal

pub returns : goal.returns
returns c =
    let first = c.args.a.first in
    let n : c.count.result ≡ count_by (λ s. s == 1) first = search rules in
    ap (λ (n : ℕ). nat_lt n c.args.a.mset) (n ∙ counted (λ s. s == 1) first)
