-- Demand 2, as far as rules and granting go: the theorems, over the definitions of specs/, of any sound rule book. Assumes nothing.
use Prim.Native.Nat.{ℕ, ◌≤◌, ◌<◌}
use native.Mathlib.Omega.{arith}
use mathlib.Core.Path.{◌≡◌, refl}
use mathlib.Core.Bool.{true, false, not, ◌&&◌, cond}
use Rattle.std.specs.Prelude.{Option, None}
use mathlib.Core.List.{List, [], ◌∷◌, ◌++◌, map}
use mathlib.Core.Logic.{◌⊎◌}
use lib.IntN.{pos}
use lib.ListN.{replicate}
use lib.Signed.{lt_z}
use Rattle.lists.specs.Words.{◌above◌, ◌at_most◌, Every, case_at, First}
use Rattle.lists.proofs.Cases.{first_applies, none_applies}
use Rattle.margin.specs.Margin.{fourfold, margin_of}
use Rattle.record.specs.declared.vehicle.Vehicle.{Vehicle}
use Rattle.account.specs.Accounts.{account_of}
use Rattle.facts.specs.Facts.{facts_of, facts_beside}
use Rattle.facts.specs.declared.Facts.{Facts}
use Rattle.facts.proofs.Demands.{v_length_within, v_length_beside}
use Rattle.order.specs.declared.Order.{Order}
use Rattle.categories.specs.Categories.{cross_rows, line_speed, speed_of, percentage_of, none, category_of}
use Rattle.categories.specs.Brakes.{begun_of, margin_for}
use Rattle.categories.specs.declared.category.Category.{Category}
use Rattle.rules.specs.Rules.{Rule, rule, first_broken, numbers_of, is_short, terms_of}
use Rattle.rules.specs.Books.{RuleBook, rules_of, broken_by, Rise, Sound}
use Rattle.rules.specs.CrossBorder.{own_rules, cross_border}
use Rattle.rules.specs.Withdrawn.{stood, former_book, longer_than_all, NotReached, formerly}
use Rattle.rules.specs.Grants.{offer, stands, better_of, best_of, absent_rule, granted_of, granted_number, granted_speed, decision_of, MayBeGranted, Among, Offered, Stands, Granted, KeepsNumber, Standing}
use Rattle.rules.specs.declared.grant.Offer.{Offer}
use Rattle.rules.specs.declared.grant.Best.{Best}
use Rattle.rules.proofs.Grants as grants
use Rattle.rules.proofs.Offers as offers
use Rattle.rules.proofs.Offers.{may_offered, offered_may, is_granted}
use Rattle.rules.proofs.Rows as table
use Rattle.rules.proofs.Withdrawn as withdrawn
use Rattle.rules.proofs.Rules as laws
use Rattle.rules.proofs.Rules.{first_some, zero_none}

-- ---- the rows of a book
-- those of the cross-border book are the page's five categories
pub cross_border_rows : cross_border.rows ≡ cross_rows
unfolding cross_border
cross_border_rows = refl

-- where the numbers rise a category is the one of its number, and 0 has none
pub category_among : (rows : List Category) (c : Category) → Rise 0 rows → Among c rows → category_of c.number rows ≡ c
category_among = table.category_among 0

pub category_none : (rows : List Category) → Rise 0 rows → category_of 0 rows ≡ none
category_none rows = table.category_none 0 0 rows (omega arith)

-- ---- the rules, in the order they are asked
-- the numbers of the common rules, and of a category's whole list
pub rule_numbers : (c : Category) (f : Facts) (o : Order)
    → (numbers_of (cross_border.common f) ≡ 15 ∷ 16 ∷ 17 ∷ 18 ∷ 19 ∷ 20 ∷ 21 ∷ 22 ∷ 23 ∷ [])
    × (numbers_of (rules_of cross_border c f o) ≡ 15 ∷ 16 ∷ 17 ∷ 18 ∷ 19 ∷ 20 ∷ 21 ∷ 22 ∷ 23 ∷ 30 ∷ 31 ∷ 32 ∷ 33 ∷ 34 ∷ 35 ∷ 40 ∷ 41 ∷ 42 ∷ 43 ∷ 44 ∷ 47 ∷ [])
unfolding cross_border
rule_numbers c f o = (refl, refl)

-- so no number is 0, and the categories' numbers rise from 1 to 5
pub cross_border_sound : Sound cross_border
unfolding cross_border
cross_border_sound = record { numbered = λ c f o. omega arith; rising = omega arith }

-- the last is broken exactly when the margin is below zero
pub rule_47 : (c : Category) (f : Facts) (o : Order) → case_at 0 (rules_of cross_border c f o) 20 ≡ rule 47 (lt_z (margin_for c f o) (pos 0))
unfolding cross_border terms_of
rule_47 c f o = refl

-- ---- rule 46, withdrawn by request Five: the former list, which had it behind 44, against today's
pub former_numbers : (c : Category) (f : Facts) (o : Order) → numbers_of (rules_of former_book c f o) ≡ 15 ∷ 16 ∷ 17 ∷ 18 ∷ 19 ∷ 20 ∷ 21 ∷ 22 ∷ 23 ∷ 30 ∷ 31 ∷ 32 ∷ 33 ∷ 34 ∷ 35 ∷ 40 ∷ 41 ∷ 42 ∷ 43 ∷ 44 ∷ 46 ∷ 47 ∷ []
unfolding former_book
former_numbers c f o = refl

-- it asked for more than 10 begun 20 m of the hauled vehicles set to V in 1 to 3
pub rule_46 : (c : Category) (f : Facts) (o : Order) → case_at 0 (rules_of former_book c f o) stood ≡ rule 46 (not c.isg && begun_of f.hauledVLength above 10)
unfolding former_book terms_of
rule_46 c f o = refl

-- from 7,001 on, where nothing else is broken
pub former_limits : (map (formerly 7000) (1 ∷ 2 ∷ 3 ∷ 4 ∷ 5 ∷ []) ≡ replicate 5 0) × (map (formerly 7001) (1 ∷ 2 ∷ 3 ∷ 4 ∷ 5 ∷ []) ≡ 46 ∷ 46 ∷ 46 ∷ 0 ∷ 0 ∷ [])
unfolding former_book cross_border broken_by terms_of line_speed margin_for margin_of fourfold percentage_of
former_limits = (refl, refl)

-- no list of vehicles has more than 700 m set to V in a hauled part of at most 700 m
pub train_not_longer : (train : List Vehicle) → longer_than_all (facts_of train) ≡ false
train_not_longer train = withdrawn.not_longer (facts_of train) (v_length_within train)

pub account_not_longer : (engines hauled : List Vehicle) → longer_than_all (facts_beside engines (account_of hauled)) ≡ false
account_not_longer engines hauled = withdrawn.not_longer (facts_beside engines (account_of hauled)) (v_length_beside engines hauled)

-- no whole train reaches it, and no engines with an account that comes from a list: wherever its test holds, 22 is broken
pub no_train_reaches_46 : (c : Category) (train : List Vehicle) (o : Order) → NotReached c (facts_of train) o
no_train_reaches_46 c train o = withdrawn.not_reached (facts_of train) (train_not_longer train) c o

pub no_account_reaches_46 : (c : Category) (engines hauled : List Vehicle) (o : Order) → NotReached c (facts_beside engines (account_of hauled)) o
no_account_reaches_46 c engines hauled o = withdrawn.not_reached (facts_beside engines (account_of hauled)) (account_not_longer engines hauled) c o

-- today no facts at all have it as the first broken: the number is given to no other rule
pub number_46_unused : (c : Category) (f : Facts) (o : Order) → broken_by cross_border c f o ≡ 46 → ⊥
number_46_unused = withdrawn.number_unused

-- what a category breaks first has not changed, or it was 46 and is 47 or none
pub former_or_46 : (c : Category) (f : Facts) (o : Order)
    → (broken_by former_book c f o ≡ broken_by cross_border c f o) ⊎ ((broken_by former_book c f o ≡ 46) × (broken_by cross_border c f o ≡ cond (is_short c f o) 47 0))
former_or_46 = withdrawn.former_or_46

-- nothing that is decided has changed, save of such figures
pub broken_kept : (f : Facts) → longer_than_all f ≡ false → (c : Category) (o : Order) → broken_by former_book c f o ≡ broken_by cross_border c f o
broken_kept = withdrawn.broken_kept

pub decision_kept : (f : Facts) → longer_than_all f ≡ false → (o : Order) → decision_of former_book f o ≡ decision_of cross_border f o
decision_kept = withdrawn.decision_kept

-- ---- the first rule broken
-- a rule's number is given exactly when it is broken and no earlier one is
pub rule_first : (rules : List Rule) (p : First 0 rules) → first_broken rules ≡ (case_at 0 rules p.place).gives
rule_first rules p = first_applies 0 rules p.place p.within p.applies p.earlier

pub no_rule : (rules : List Rule) → Every (λ r. r.applies ≡ false) rules → first_broken rules ≡ 0
no_rule = none_applies 0

-- of rules up to a number, and then others, the first broken of the former is the first of all where that is at most the number
pub first_up_to : (m : ℕ) (rules others : List Rule) → Every (λ r. r.gives ≤ m) rules → Every (λ r. m < r.gives) others
    → cond (first_broken (rules ++ others) at_most m) (first_broken (rules ++ others)) 0 ≡ first_broken rules
first_up_to = laws.first_up_to

-- all categories hold the common rule where there is one
pub common_in_all : (c : Category) (f : Facts) (o : Order) → (first_broken (cross_border.common f) ≡ 0 → ⊥) → broken_by cross_border c f o ≡ first_broken (cross_border.common f)
unfolding broken_by cross_border
common_in_all c f o h = first_some (cross_border.common f) (own_rules (terms_of c f o) f) h

-- ---- granting, of any offers
-- an offer stands exactly when it is the asked or a greater one and breaks no rule
pub stands_exactly : (asked : ℕ) (x : Offer)
    → (stands asked x ≡ true → (asked ≤ x.number) × (x.broken ≡ 0))
    × (asked ≤ x.number → x.broken ≡ 0 → stands asked x ≡ true)
stands_exactly = offers.stands_exactly

-- where none stands none is granted; it asks no more of what is granted than that it stands
pub none_exactly : (asked : ℕ) (os : List Offer) (g : Option Best) → (0 < granted_number g → Stands asked os (granted_number g) (granted_speed g)) → ((n s : ℕ) → Stands asked os n s → ⊥) → granted_number g ≡ 0
none_exactly = grants.none_exactly

pub nothing_exactly : (asked : ℕ) (os : List Offer) (g : Option Best) → Granted asked os g → ((n s : ℕ) → Stands asked os n s → ⊥) → g ≡ None
nothing_exactly = grants.nothing_exactly

-- and what is granted is one answer alone
pub granted_alone : (asked : ℕ) (os : List Offer) (g h : Option Best) → Granted asked os g → Granted asked os h → g ≡ h
granted_alone = grants.granted_alone

-- a category that a book does not have is passed over, whatever its number and speed
pub absent_passed : (asked n speed : ℕ) (rest : Option Best) → better_of asked (offer n speed absent_rule) rest ≡ rest
absent_passed = offers.absent_passed

-- of rows offered in any way that keeps their numbers
module _ (asked : ℕ) (offered : Category → Offer) (keeps : KeepsNumber offered) (rows : List Category) where
  -- the computed one is what is granted of them, where the numbers rise
  pub rows_granted : Rise 0 rows → Granted asked (map offered rows) (best_of asked (map offered rows))
  rows_granted = offers.rows_granted asked offered keeps rows

  -- one of them that stands, and one that stands is one of them
  pub among_stands : (c : Category) → Among c rows → stands asked (offered c) ≡ true → Stands asked (map offered rows) c.number (offered c).speed
  among_stands = offers.among_stands asked offered keeps rows

  pub stands_among : (n s : ℕ) → Stands asked (map offered rows) n s → Standing asked offered rows n s
  stands_among = offers.stands_among asked offered keeps rows

-- ---- one order
module _ (b : RuleBook) (f : Facts) (o : Order) where
  -- what a category breaks is the first rule broken of its list
  pub first_rule_lem : (c : Category) (p : First 0 (rules_of b c f o)) → broken_by b c f o ≡ (case_at 0 (rules_of b c f o) p.place).gives
  unfolding broken_by
  first_rule_lem c p = rule_first (rules_of b c f o) p

  module _ (sound : Sound b) where
    -- and 0 exactly when none of its list is broken
    pub zero_exactly : (c : Category)
        → (broken_by b c f o ≡ 0 → Every (λ r. r.applies ≡ false) (rules_of b c f o))
        × (Every (λ r. r.applies ≡ false) (rules_of b c f o) → broken_by b c f o ≡ 0)
    unfolding broken_by
    zero_exactly c = (zero_none (rules_of b c f o) (sound.numbered c f o), no_rule (rules_of b c f o))

    -- no category is granted exactly when every one from the asked on breaks a rule
    pub none_granted : granted_number (granted_of b f o) ≡ 0 → (c : Category) → Among c b.rows → MayBeGranted b f o c → ⊥
    none_granted e c a m = (is_granted b f o sound.rising).none e c.number (speed_of c f o) (may_offered b f o c a m)

    pub all_broken : ((c : Category) → Among c b.rows → MayBeGranted b f o c → ⊥) → granted_number (granted_of b f o) ≡ 0
    all_broken h =
        grants.none_exactly o.asked _ (granted_of b f o) (is_granted b f o sound.rising).one
        (λ n s w. let x = offered_may b f o n s w in h x.category x.among x.may)

    -- and then there is no speed
    pub no_speed_lem : granted_number (granted_of b f o) ≡ 0 → granted_speed (granted_of b f o) ≡ 0
    no_speed_lem = (is_granted b f o sound.rising).no_speed

    -- the one granted is the asked or a greater one that breaks no rule, at its own speed
    pub granted_stands : 0 < granted_number (granted_of b f o) → Offered b f o (granted_number (granted_of b f o)) (granted_speed (granted_of b f o))
    granted_stands p = offered_may b f o (granted_number (granted_of b f o)) (granted_speed (granted_of b f o)) ((is_granted b f o sound.rising).one p)

    -- none that may be granted is faster, and none as fast has a lower number
    pub granted_is_fastest : (c : Category) → Among c b.rows → MayBeGranted b f o c → speed_of c f o ≤ granted_speed (granted_of b f o)
    granted_is_fastest c a m = (is_granted b f o sound.rising).fastest c.number (speed_of c f o) (may_offered b f o c a m)

    pub lowest_at_a_tie : (c : Category) → Among c b.rows → MayBeGranted b f o c → speed_of c f o ≡ granted_speed (granted_of b f o) → granted_number (granted_of b f o) ≤ c.number
    lowest_at_a_tie c a m e = (is_granted b f o sound.rising).lowest c.number (speed_of c f o) (may_offered b f o c a m) e

-- what is granted is the best of what is decided to be offered
pub granted_of_decided : (f : Facts) (o : Order) → best_of o.asked (decision_of cross_border f o).offers ≡ granted_of cross_border f o
unfolding cross_border
granted_of_decided f o = offers.granted_decided cross_border f o (omega arith)
