-- `account::join` meets its contract. Assumes nothing.
use mathlib.Core.Path.{sym, ap, ap₂, ◌∙◌}
use mathlib.Core.Bool.{◌&&◌}
use Rattle.lists.proofs.Lists.{both}
use Rattle.account.specs.Ceilings.{within}
use Rattle.std.specs.Prelude.{Ok}
use Rattle.account.specs.declared.Account.{Account}
use Rattle.account.proofs.Ceils.{test_within}
use Rattle.account.proofs.Joins.{refused_is, joined_above, joined_many, joined_done}
use Rattle.account.proofs.join.Goals as goal

pub returns-then-not-within_ceilings : goal.returns-then-not-within_ceilings
returns-then-not-within_ceilings c =
    refused_is c.refused_by.ensures
    ∙ joined_above _ _ (sym (ap₂ ◌&&◌ c.within_ceilings.ensures c.within_ceilings-2.ensures) ∙ c.if-not-within_ceilings.true)

pub add-account-requires : goal.add-account-requires
add-account-requires c =
    let a = c.args in
    let t = both (within a.left) (within a.right) (sym (ap₂ ◌&&◌ c.within_ceilings.ensures c.within_ceilings-2.ensures) ∙ c.if-not-within_ceilings.false) in
    record { left_within = test_within a.left t.0; right_within = test_within a.right t.1 }

pub returns-then-not-within_ceilings-2 : goal.returns-then-not-within_ceilings-2
returns-then-not-within_ceilings-2 c =
    refused_is c.refused_by-then-not-within_ceilings-2.ensures
    ∙ joined_many _ _
    (sym (ap₂ ◌&&◌ c.within_ceilings.ensures c.within_ceilings-2.ensures) ∙ c.if-not-within_ceilings.false)
    (ap within (sym c.add-account.ensures) ∙ sym c.within_ceilings-3.ensures ∙ c.if-not-within_ceilings-2.true)

pub returns : goal.returns
returns c =
    ap (λ (a : Account). Ok a) c.add-account.ensures
    ∙ joined_done _ _
    (sym (ap₂ ◌&&◌ c.within_ceilings.ensures c.within_ceilings-2.ensures) ∙ c.if-not-within_ceilings.false)
    (ap within (sym c.add-account.ensures) ∙ sym c.within_ceilings-3.ensures ∙ c.if-not-within_ceilings-2.false)
