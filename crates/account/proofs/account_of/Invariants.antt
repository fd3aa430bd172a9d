-- `account::account_of` meets its contract: the records before `i` are good and hauled, and what is gathered is theirs. Assumes nothing.
use mathlib.Core.Path.{◌≡◌}
use mathlib.Core.Bool.{true}
use mathlib.Core.List.{map}
use Rattle.lists.specs.Words.{all, Every}
use Rattle.record.specs.Records.{records}
use Rattle.record.specs.Vehicles.{good, vehicle}
use Rattle.account.specs.Gathering.{gathered}
use Rattle.account.specs.Groupings.{GoodHauled}
use Rattle.account.proofs.account_of.Given as goal

abbrev pub invariant-loop-i : goal.invariant-loop-i
invariant-loop-i l =
    record {
      fine : all good (records l.i l.portion) ≡ true;
      each : Every GoodHauled (map vehicle (records l.i l.portion));
      sums : l.gathered ≡ gathered (map vehicle (records l.i l.portion));
    }
