-- `account::gather::Gathered::account` meets its contract. Assumes nothing.
use Prim.Native.Nat.{ℕ}
use native.Mathlib.Omega.{arith}
use mathlib.Core.Path.{sym, ap, ap₂, ◌∙◌}
use lib.Dec.{ltb}
use Rattle.record.specs.Records.{record_count}
use Rattle.record.specs.Vehicles.{vehicles, is_hauled_engine, is_isolated, is_joined, is_r}
use Rattle.account.specs.Accounts.{account_of}
use Rattle.account.specs.Gathering.{sums_of, sums_at, gathered}
use Rattle.account.specs.declared.gather.Sums.{Sums}
use Rattle.account.specs.declared.gather.Gathered.{Gathered}
use Rattle.account.proofs.gather.Gathered.account.Goals as goal
use Rattle.account.proofs.Joins.{each_hauled}
use Rattle.account.proofs.Gathers.{behind_ahead}
use Rattle.record.proofs.Vehicles.{length_vehicles}
use Rattle.lists.proofs.Figures.{leading_le, some_count, lack_count}

pub overflow_cast-leading : goal.overflow_cast-leading
overflow_cast-leading c =
    let bs = c.args.portion.now in
    omega (arith, c.requires.portion_bound, c.leading_isolated-leading.ensures, leading_le is_isolated (vehicles bs), length_vehicles (record_count bs) bs)

pub overflow_cast-engines_ahead : goal.overflow_cast-engines_ahead
overflow_cast-engines_ahead c =
    let bs = c.args.portion.now in
    omega (arith, c.requires.portion_bound, c.leading_engines-engines_ahead.ensures, leading_le is_hauled_engine (vehicles bs), length_vehicles (record_count bs) bs)

pub returns : goal.returns
unfolding account_of gathered sums_of
returns c =
    let xs = vehicles c.args.portion.now in
    let g = c.requires.gathered in
    let row : ℕ → Gathered → Sums = λ k a. sums_at a.by_setting k in
    λ i.
    record {
      count = (g i).count;
      mass = (g i).mass;
      vmass = (row 2 (g i)).vmass;
      mmass = (row 1 (g i)).mmass;
      length = (g i).length;
      axles = (g i).axles;
      vaxles = (row 2 (g i)).axles;
      engines = (g i).engines;
      mset = (row 1 (g i)).count;
      isolated = (row 0 (g i)).count;
      dloads = (g i).dloads;
      leading = c.leading_isolated-leading.ensures i;
      trailing = (g i).trailing;
      longest = (g i).longest;
      behind = (ap₂ ltb c.leading_engines-engines_ahead.ensures (ap (λ (a : Gathered). a.engines) g) ∙ sym (behind_ahead xs (each_hauled xs c.requires.each))) i;
      rule16 = (ap (λ (a : Gathered). ltb 0 (row 3 a).count) g ∙ sym (some_count is_r xs)) i;
      rule17 = (ap₂ ltb (ap (λ (a : Gathered). a.joined) g) (ap (λ (a : Gathered). a.count) g) ∙ sym (lack_count is_joined xs)) i;
      rule18 = (g i).rule18;
      slowest = (g i).slowest;
      first = (g i).first;
      vlength = (row 2 (g i)).length;
      enginemmass = (g i).enginemmass;
      wagonvmass = (g i).wagonvmass;
      enginenotm = (g i).enginenotm;
    }
