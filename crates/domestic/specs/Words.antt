-- All broken rules at once: a word with one bit a rule, the lowest for the rule asked first; and what is judged once for ME, and once for MA.
use Rattle.std.specs.Prelude.{ℕ, ◌+◌, ◌*◌, Bool, false, ◌&&◌, cond, List, [], ◌∷◌}
use Rattle.lists.specs.Words.{◌is◌, ◌above◌}
use Rattle.facts.specs.declared.Facts.{Facts}
use Rattle.order.specs.declared.Order.{Order}
use Rattle.rules.specs.Rules.{marks_of}
use Rattle.domestic.specs.Rules.{domestic_rules}
use Rattle.domestic.specs.declared.rule.Terms.{Terms}

-- marks as a number: mark i is bit i
abbrev pub word_of : List Bool → ℕ
word_of [] = 0
word_of (b ∷ bs) = cond b 1 0 + 2 * word_of bs

-- the terms of ME, or of MA, at which no rule is broken that reads a category's own speed, line or margin
unfoldable pub still_of : Bool → Facts → Order → Terms
still_of isma f o =
    record {
      speed = 0;
      isma = isma;
      line = 1;
      alone = f.hauledMass;
      coupling = o.coupling;
      admissible = o.admissible;
      short = false;
    }

-- all that the categories of ME, or of MA, break alike
unfoldable pub base_of : Bool → Facts → Order → ℕ
base_of isma f o = word_of (marks_of (domestic_rules (still_of isma f o) f))

-- the rules of ME that read a category's own speed, line or margin, each at its bit: 61, 62, 64, 66, 67, 73, 77
abbrev pub own_me : ℕ → ℕ → ℕ → Bool → Facts → ℕ
own_me speed alone line short f =
    2 * cond (line is 0) 1 0
    + 4 * cond (f.workingNotM && f.hauledMass above alone) 1 0
    + 16 * cond (speed is 140 && f.dloads above 0) 1 0
    + 64 * cond (speed above f.slowestHauled) 1 0
    + 128 * cond (speed above 100 && f.fewWagons) 1 0
    + 8192 * cond (speed above f.slowestWorking) 1 0
    + 131072 * cond short 1 0

-- those of MA: 61, 78, 83, 88
abbrev pub own_ma : ℕ → ℕ → Bool → Facts → ℕ
own_ma speed line short f =
    2 * cond (line is 0) 1 0
    + 262144 * cond (speed above f.slowestHauled) 1 0
    + 8388608 * cond (speed above f.slowestWorking) 1 0
    + 268435456 * cond short 1 0
