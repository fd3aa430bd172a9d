-- `account::engine_or_bad` meets its contract. Assumes nothing.
use Prim.Native.Nat.{ℕ}
use mathlib.Core.Path.{◌≡◌, subst}
use mathlib.Core.Bool.{Bool, true, false, cond}
use mathlib.Core.List.{List}
use Rattle.std.specs.Prelude.{Option, Some, None, MatchOption}
use Rattle.lists.specs.Words.{all, leading}
use Rattle.record.specs.Records.{records_of}
use Rattle.record.specs.Vehicles.{good, first_bad}
use Rattle.account.specs.Portions.{engine_or_bad}
use Rattle.account.specs.declared.Refusal.{Refusal}
use Rattle.account.specs.declared.Refusal.TheVariants.{BadField, WorkingEngine}
use Rattle.account.proofs.engine_or_bad.Goals as goal

-- refusal 3 where the scan found a bad record
found_or : (r : Refusal) (rs : List (List ℕ)) → MatchOption (first_bad rs) (r ≡ WorkingEngine) (λ place. r ≡ BadField place) → r ≡ engine_or_bad rs
unfolding first_bad
found_or r rs = go (all good rs)
  where
    go : (b : Bool) → MatchOption (cond b None (Some (leading good rs))) (r ≡ WorkingEngine) (λ place. r ≡ BadField place) → r ≡ cond b WorkingEngine (BadField (leading good rs))
    go true e = e
    go false e = e

pub returns : goal.returns
returns c =
    found_or c.map_or.result (records_of c.args.portion.now)
    (subst (λ (o : Option ℕ). MatchOption o (c.map_or.result ≡ WorkingEngine) (λ place. c.map_or.result ≡ BadField place)) c.first_bad.ensures c.map_or.ensures)
