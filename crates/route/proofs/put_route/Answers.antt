-- `route::put_route` meets its contract: what is granted and written is what the facts give. Assumes nothing.
use Prim.Native.Nat.{ℕ}
use mathlib.Core.Path.{◌≡◌, ap, ◌∙◌}
use borrow.Author.Rules.{rules}
use Rattle.std.specs.Prelude.{Option, Some, None, MatchOption}
use Rattle.rules.specs.Grants.{granted_number}
use Rattle.rules.specs.declared.grant.Best.{Best}
use Rattle.sections.specs.Routes.{speeds_on}
use Rattle.sections.specs.Sections.{sections_of, laid_over}
use Rattle.route.specs.Answers.{book_for, granted_for, speeds_for}
use Rattle.route.proofs.put_route.Goals as goal

number_is : (best : Option Best) (n : ℕ) (P : Best → Type 0) → ((b : Best) → P b → n ≡ b.number) → MatchOption best (n ≡ 0) P → n ≡ granted_number best
number_is None n P f h = h
number_is (Some b) n P f h = f b h

pub returns : goal.returns
unfolding granted_for speeds_for
returns c =
    let a = c.args in
    let granted = number_is c.grant_on.result c.map_or-granted.result _ (λ b h. search rules) c.map_or-granted.ensures ∙ ap granted_number c.grant_on.ensures in
    record {
      value = granted;
      speeds_after = c.put_speeds.ensures ∙ ap (λ (n : ℕ). laid_over (speeds_on (book_for (sections_of a.orders.now)) n a.f (sections_of a.orders.now)) a.speeds.now) granted;
    }
