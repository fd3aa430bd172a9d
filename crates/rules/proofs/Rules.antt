-- Laws of the first rule broken, over any list of rules, and of what a category breaks beside its family. Assumes nothing.
use Prim.Native.Nat.{ℕ, ◌≤◌, ◌<◌}
use native.Mathlib.Omega.{arith}
use mathlib.Core.Path.{◌≡◌, refl, sym, ap, ◌∙◌}
use mathlib.Core.Bool.{Bool, true, false, cond}
use mathlib.Core.List.{List, [], ◌∷◌, ◌++◌}
use mathlib.Core.Logic.{◌⊎◌, inl, inr}
use borrow.Author.Tests.{le-leb, lt-leb, eqb-true, eqb-false}
use Rattle.std.specs.Prelude.{None, Some}
use Rattle.std.specs.Bool.{then_some}
use Rattle.std.specs.List.{find}
use Rattle.std.specs.Option.{unwrap_or, option_map, option_or}
use Rattle.lists.specs.Words.{◌is◌, ◌at_most◌, Every}
use Rattle.facts.specs.declared.Facts.{Facts}
use Rattle.order.specs.declared.Order.{Order}
use Rattle.categories.specs.Categories.{line_speed}
use Rattle.categories.specs.declared.category.Category.{Category}
use Rattle.rules.specs.Rules.{Rule, first_broken, is_short, terms_of}
use Rattle.rules.specs.Books.{broken_by}
use Rattle.rules.specs.Families.{rules_listed, first_rule, still_of}
use Rattle.rules.specs.CrossBorder.{common_rules, family_rules, cross_rules, cross_border}

-- ---- the first rule broken, if there is one
-- as it is looked up in a list of numbers with their marks
pub rule_found : (rules : List (ℕ × Bool)) → option_map (λ r. r.0) (find (λ r. r.1) rules) ≡ first_rule (rules_listed rules)
rule_found [] = refl
rule_found (r ∷ rules) = go r.1 (rule_found rules)
  where
    go : (b : Bool) → option_map (λ r. r.0) (find (λ r. r.1) rules) ≡ first_rule (rules_listed rules)
        → option_map (λ r. r.0) (cond b (Some r) (find (λ r. r.1) rules)) ≡ cond b (Some r.0) (first_rule (rules_listed rules))
    go true rest = refl
    go false rest = rest

-- its number, or 0
number_of_first : (rules : List Rule) → unwrap_or (first_rule rules) 0 ≡ first_broken rules
number_of_first [] = refl
number_of_first (r ∷ rules) = go r.applies (number_of_first rules)
  where
    go : (b : Bool) → unwrap_or (first_rule rules) 0 ≡ first_broken rules → unwrap_or (cond b (Some r.gives) (first_rule rules)) 0 ≡ cond b r.gives (first_broken rules)
    go true rest = refl
    go false rest = rest

-- of two lists, one with another, and each with a rule behind it
first_of_parts : (xs ys : List Rule) (r s : Rule)
    → option_or (option_or (option_or (first_rule xs) (then_some r.applies r.gives)) (first_rule ys)) (then_some s.applies s.gives) ≡ first_rule (xs ++ r ∷ (ys ++ s ∷ []))
first_of_parts [] ys r s = go r.applies
  where
    behind : (ys : List Rule) → option_or (first_rule ys) (then_some s.applies s.gives) ≡ first_rule (ys ++ s ∷ [])
    behind [] = go s.applies
      where
        go : (b : Bool) → then_some b s.gives ≡ cond b (Some s.gives) None
        go true = refl
        go false = refl
    behind (y ∷ ys) = go y.applies (behind ys)
      where
        go : (b : Bool) → option_or (first_rule ys) (then_some s.applies s.gives) ≡ first_rule (ys ++ s ∷ [])
            → option_or (cond b (Some y.gives) (first_rule ys)) (then_some s.applies s.gives) ≡ cond b (Some y.gives) (first_rule (ys ++ s ∷ []))
        go true rest = refl
        go false rest = rest

    go : (b : Bool) → option_or (option_or (then_some b r.gives) (first_rule ys)) (then_some s.applies s.gives) ≡ cond b (Some r.gives) (first_rule (ys ++ s ∷ []))
    go true = refl
    go false = behind ys
first_of_parts (x ∷ xs) ys r s = go x.applies (first_of_parts xs ys r s)
  where
    go : (b : Bool) → option_or (option_or (option_or (first_rule xs) (then_some r.applies r.gives)) (first_rule ys)) (then_some s.applies s.gives) ≡ first_rule (xs ++ r ∷ (ys ++ s ∷ []))
        → option_or (option_or (option_or (cond b (Some x.gives) (first_rule xs)) (then_some r.applies r.gives)) (first_rule ys)) (then_some s.applies s.gives)
        ≡ cond b (Some x.gives) (first_rule (xs ++ r ∷ (ys ++ s ∷ [])))
    go true rest = refl
    go false rest = rest

-- a category breaks first what is common, 30, what its family breaks, or 47
pub broken_there : (c : Category) (f : Facts) (o : Order)
    → unwrap_or (option_or (option_or (option_or (first_rule (common_rules f)) (then_some (line_speed c o is 0) 30)) (first_rule (family_rules (still_of c.isg o) f))) (then_some (is_short c f o) 47)) 0
    ≡ broken_by cross_border c f o
unfolding broken_by cross_border terms_of
broken_there c f o =
    let t = terms_of c f o in
    ap (λ x. unwrap_or x 0) (first_of_parts (common_rules f) (family_rules t f) (record { gives = 30; applies = line_speed c o is 0 }) (record { gives = 47; applies = is_short c f o }))
    ∙ number_of_first (cross_rules t f)

-- ---- common rules first
-- among numbers above m, the first is above m or none is broken
none_up_to : (m : ℕ) (rules : List Rule) → Every (λ r. m < r.gives) rules → cond (first_broken rules at_most m) (first_broken rules) 0 ≡ 0
none_up_to m [] above = rw (le-leb 0 m (omega arith))
none_up_to m (r ∷ rules) above = go r.applies (none_up_to m rules above.1)
  where
    go : (b : Bool) → cond (first_broken rules at_most m) (first_broken rules) 0 ≡ 0 → cond (cond b r.gives (first_broken rules) at_most m) (cond b r.gives (first_broken rules)) 0 ≡ 0
    go true rest = rw (lt-leb r.gives m above.0)
    go false rest = rest

-- rules of numbers up to m, and then others: the first of the former is the first of all where that is at most m
pub first_up_to : (m : ℕ) (rules others : List Rule) → Every (λ r. r.gives ≤ m) rules → Every (λ r. m < r.gives) others
    → cond (first_broken (rules ++ others) at_most m) (first_broken (rules ++ others)) 0 ≡ first_broken rules
first_up_to m [] others low above = none_up_to m others above
first_up_to m (r ∷ rules) others low above = go r.applies (first_up_to m rules others low.1 above)
  where
    go : (b : Bool) → cond (first_broken (rules ++ others) at_most m) (first_broken (rules ++ others)) 0 ≡ first_broken rules
        → cond (cond b r.gives (first_broken (rules ++ others)) at_most m) (cond b r.gives (first_broken (rules ++ others))) 0 ≡ cond b r.gives (first_broken rules)
    go true rest = rw (le-leb r.gives m low.0)
    go false rest = rest

-- where one of the former is broken, what stands behind them is of no account
pub first_some : (rules others : List Rule) → (first_broken rules ≡ 0 → ⊥) → first_broken (rules ++ others) ≡ first_broken rules
first_some [] others h = absurd (h refl)
first_some (r ∷ rules) others h = go r.applies h (first_some rules others)
  where
    go : (b : Bool) → (cond b r.gives (first_broken rules) ≡ 0 → ⊥) → ((first_broken rules ≡ 0 → ⊥) → first_broken (rules ++ others) ≡ first_broken rules)
        → cond b r.gives (first_broken (rules ++ others)) ≡ cond b r.gives (first_broken rules)
    go true h rest = refl
    go false h rest = rest h

-- ---- no rule has the number 0: zero exactly when none is broken
pub zero_none : (rules : List Rule) → Every (λ r. 0 < r.gives) rules → first_broken rules ≡ 0 → Every (λ r. r.applies ≡ false) rules
zero_none [] numbered e = tt
zero_none (r ∷ rules) numbered e = go r.applies refl e (zero_none rules numbered.1)
  where
    go : (b : Bool) → r.applies ≡ b → cond b r.gives (first_broken rules) ≡ 0 → (first_broken rules ≡ 0 → Every (λ r. r.applies ≡ false) rules) → Every (λ r. r.applies ≡ false) (r ∷ rules)
    go true a e rest = absurd (omega (arith, numbered.0))
    go false a e rest = (a, rest e)

-- ---- one rule more, or one less
-- where none is broken the first is that of those behind
none_then : (rules others : List Rule) → Every (λ r. r.applies ≡ false) rules → first_broken (rules ++ others) ≡ first_broken others
none_then [] others each = refl
none_then (r ∷ rules) others each = rw each.0 (none_then rules others each.1)

-- one that is not broken changes no first
skipped : (rules others : List Rule) (r : Rule) → r.applies ≡ false → first_broken (rules ++ r ∷ others) ≡ first_broken (rules ++ others)
skipped [] others r e = rw e
skipped (x ∷ rules) others r e = ap (cond x.applies x.gives) (skipped rules others r e)

-- nor does one that is broken only behind another
pub one_less : (rules others : List Rule) (r : Rule) → (r.applies ≡ true → first_broken rules ≡ 0 → ⊥) → first_broken (rules ++ r ∷ others) ≡ first_broken (rules ++ others)
one_less rules others r h = go r.applies refl
  where
    go : (b : Bool) → r.applies ≡ b → first_broken (rules ++ r ∷ others) ≡ first_broken (rules ++ others)
    go true e = first_some rules (r ∷ others) (h e) ∙ sym (first_some rules others (h e))
    go false e = skipped rules others r e

-- one that is put in between is the first where none before it is broken, and else changes nothing
pub put_in : (rules others : List Rule) (r : Rule) → Every (λ r. 0 < r.gives) rules
    → (first_broken (rules ++ r ∷ others) ≡ first_broken (rules ++ others)) ⊎ ((first_broken (rules ++ r ∷ others) ≡ r.gives) × (first_broken (rules ++ others) ≡ first_broken others))
put_in rules others r numbered = go r.applies refl (first_broken rules is 0) refl
  where
    go : (b : Bool) → r.applies ≡ b → (z : Bool) → (first_broken rules is 0) ≡ z
        → (first_broken (rules ++ r ∷ others) ≡ first_broken (rules ++ others)) ⊎ ((first_broken (rules ++ r ∷ others) ≡ r.gives) × (first_broken (rules ++ others) ≡ first_broken others))
    go false e z h = inl (skipped rules others r e)
    go true e false h = inl (one_less rules others r (λ a. eqb-false (first_broken rules) 0 h))
    go true e true h = let none = zero_none rules numbered (eqb-true (first_broken rules) 0 h) in inr (none_then rules (r ∷ others) none ∙ rw e, none_then rules others none)

-- the first broken has what 0 and every number have
pub first_has : (P : ℕ → Type 0) (rules : List Rule) → P 0 → Every (λ r. P r.gives) rules → P (first_broken rules)
first_has P [] none each = none
first_has P (r ∷ rules) none each = go r.applies (first_has P rules none each.1)
  where
    go : (b : Bool) → P (first_broken rules) → P (cond b r.gives (first_broken rules))
    go true rest = each.0
    go false rest = rest
