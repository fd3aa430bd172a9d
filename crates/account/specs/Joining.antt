-- Document 01, "The account": joining, fixed for all accounts, also those that no list has.
use Rattle.std.specs.Prelude.{ℕ, ◌+◌, min, max, ◌&&◌, ◌||◌, cond, List, ◌++◌, take}
use Rattle.lists.specs.Words.{◌is◌, ◌above◌}
use Rattle.account.specs.declared.Account.{Account}

-- a run, with the next portion's added when it equals the count n of its own
abbrev pub onward : ℕ → ℕ → ℕ → ℕ
onward run n next = cond (run is n) (run + next) run

-- the left's settings as far as its count n, then the right's from its first
abbrev pub fill : ℕ → List ℕ → List ℕ → List ℕ
fill n left right = take 5 (take n left ++ right)

unfoldable pub joining : Account → Account → Account
joining left right =
    record {
      -- sums add
      count = left.count + right.count;
      mass = left.mass + right.mass;
      vmass = left.vmass + right.vmass;
      mmass = left.mmass + right.mmass;
      length = left.length + right.length;
      axles = left.axles + right.axles;
      vaxles = left.vaxles + right.vaxles;
      engines = left.engines + right.engines;
      mset = left.mset + right.mset;
      isolated = left.isolated + right.isolated;
      dloads = left.dloads + right.dloads;
      -- leading from the left, trailing likewise from the right; the longest may cross the cut
      leading = onward left.leading left.count right.leading;
      trailing = onward right.trailing right.count left.trailing;
      longest = max (max left.longest right.longest) (left.trailing + right.leading);
      -- marks hold if either holds; an engine also stands behind a wagon of the left
      behind = left.behind || right.behind || (left.count above left.engines && right.engines above 0);
      rule16 = left.rule16 || right.rule16;
      rule17 = left.rule17 || right.rule17;
      rule18 = left.rule18 || right.rule18;
      -- the slower speed stays
      slowest = min left.slowest right.slowest;
      first = fill left.count left.first right.first;
      -- a sum (request Three)
      vlength = left.vlength + right.vlength;
      -- two sums and a mark (request Six)
      enginemmass = left.enginemmass + right.enginemmass;
      wagonvmass = left.wagonvmass + right.wagonvmass;
      enginenotm = left.enginenotm || right.enginenotm;
    }
