-- What ME, or MA, breaks alike, with a category's own rules beside it. Assumes nothing.
use Prim.Native.Nat.{ℕ, ◌+◌}
use native.Mathlib.Omega.{arith}
use mathlib.Core.Path.{◌≡◌, refl, sym, ap, ◌∙◌, subst}
use mathlib.Core.Bool.{Bool, true, false, ◌&&◌}
use borrow.Author.Tests.{le-ltb}
use lib.Count.{count_trailing_zeros}
use lib.ListN.{get_or}
use Rattle.facts.specs.declared.Facts.{Facts}
use Rattle.order.specs.declared.Order.{Order}
use Rattle.categories.specs.Categories.{line_speed}
use Rattle.categories.specs.declared.category.Category.{Category}
use Rattle.rules.specs.Rules.{numbers_of, marks_of, is_short}
use Rattle.rules.specs.Books.{broken_by}
use Rattle.domestic.specs.Rules.{domestic_rules, alone_above, terms_of, domestic}
use Rattle.domestic.specs.Words.{word_of, still_of, base_of, own_me, own_ma}
use Rattle.domestic.specs.declared.rule.Terms.{Terms}
use Rattle.domestic.proofs.Words.{lowest_first}

and_false : (b : Bool) → b && false ≡ false
and_false true = refl
and_false false = refl

abbrev terms : Bool → ℕ → ℕ → ℕ → ℕ → ℕ → Bool → Terms
terms isma speed line alone coupling admissible short =
    record { speed = speed; isma = isma; line = line; alone = alone; coupling = coupling; admissible = admissible; short = short }

beside_me : (speed line coupling admissible : ℕ) (short : Bool) (f : Facts)
    → word_of (marks_of (domestic_rules (terms false 0 1 f.hauledMass coupling admissible false) f)) + own_me speed (alone_above speed) line short f
    ≡ word_of (marks_of (domestic_rules (terms false speed line (alone_above speed) coupling admissible short) f))
beside_me speed line coupling admissible short f =
    rw (le-ltb f.slowestHauled 0 (omega arith), le-ltb f.slowestWorking 0 (omega arith), le-ltb f.hauledMass f.hauledMass (omega arith), and_false f.workingNotM) (omega arith)

beside_ma : (speed line alone coupling admissible : ℕ) (short : Bool) (f : Facts)
    → word_of (marks_of (domestic_rules (terms true 0 1 f.hauledMass coupling admissible false) f)) + own_ma speed line short f
    ≡ word_of (marks_of (domestic_rules (terms true speed line alone coupling admissible short) f))
beside_ma speed line alone coupling admissible short f =
    rw (le-ltb f.slowestHauled 0 (omega arith), le-ltb f.slowestWorking 0 (omega arith)) (omega arith)

module _ (c : Category) (f : Facts) (o : Order) where
  -- with a category's own bits, its word is that of its whole list
  abbrev Added : ℕ → Bool → Type 0
  Added own isma =
      word_of (marks_of (domestic_rules (still_of isma f o) f)) + own
      ≡ word_of (marks_of (domestic_rules (terms isma c.speed (line_speed c o) (alone_above c.speed) o.coupling o.admissible (is_short c f o)) f))

  -- and its lowest bit the first rule broken
  first_added : (own : ℕ) → Added own c.isg → get_or (numbers_of (domestic_rules (terms_of c f o) f)) (count_trailing_zeros 32 (base_of c.isg f o + own)) 0 ≡ broken_by domestic c f o
  unfolding base_of broken_by domestic terms_of
  first_added own e =
      let rules = domestic_rules (terms_of c f o) f in
      ap (λ (w : ℕ). get_or (numbers_of rules) (count_trailing_zeros 32 w) 0) e ∙ lowest_first rules (omega arith)

  pub me_first : c.isg ≡ false → get_or (numbers_of (domestic_rules (terms_of c f o) f)) (count_trailing_zeros 32 (base_of c.isg f o + own_me c.speed (alone_above c.speed) (line_speed c o) (is_short c f o) f)) 0 ≡ broken_by domestic c f o
  unfolding still_of
  me_first e = first_added _ (subst (Added (own_me c.speed (alone_above c.speed) (line_speed c o) (is_short c f o) f)) (sym e) (beside_me c.speed (line_speed c o) o.coupling o.admissible (is_short c f o) f))

  pub ma_first : c.isg ≡ true → get_or (numbers_of (domestic_rules (terms_of c f o) f)) (count_trailing_zeros 32 (base_of c.isg f o + own_ma c.speed (line_speed c o) (is_short c f o) f)) 0 ≡ broken_by domestic c f o
  unfolding still_of
  ma_first e = first_added _ (subst (Added (own_ma c.speed (line_speed c o) (is_short c f o) f)) (sym e) (beside_ma c.speed (line_speed c o) (alone_above c.speed) o.coupling o.admissible (is_short c f o) f))
