-- What is judged once for 1 to 3, and once for 4 and 5, of the cross-border book.
use Rattle.std.specs.Prelude.{ℕ, Bool, false, cond, Option, None, Some, List, [], ◌∷◌, map}
use Rattle.order.specs.declared.Order.{Order}
use Rattle.rules.specs.Rules.{Rule, rule, Terms, terms_at}

-- a list of numbers, each with its mark
abbrev pub rules_listed : List (ℕ × Bool) → List Rule
rules_listed rules = map (λ r. rule r.0 r.1) rules

-- the number of the first rule broken
abbrev pub first_rule : List Rule → Option ℕ
first_rule [] = None
first_rule (r ∷ rules) = cond r.applies (Some r.gives) (first_rule rules)

-- the same for all of 1 to 3, or for 4 and 5: the terms at which neither the line nor the margin breaks a rule
abbrev pub still_of : Bool → Order → Terms
still_of isg o = terms_at isg 1 false o
