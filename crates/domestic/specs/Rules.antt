-- The domestic book, RC A-B 7a no 1 with its booklets 3 (ME) and 4 (MA) (request Six): its rules, one line a rule, its number and article beside it.
-- H is the hauled mass, L the train's length, "long" braked as a long locomotive (1403.2).
use Rattle.std.specs.Prelude.{ℕ, not, ◌&&◌, ◌||◌, cond, List, [], ◌∷◌}
use Rattle.lists.specs.Words.{◌is◌, ◌above◌, ◌at_most◌}
use Rattle.facts.specs.declared.Facts.{Facts}
use Rattle.order.specs.declared.Order.{Order}
use Rattle.categories.specs.Categories.{line_speed, domestic_rows}
use Rattle.categories.specs.declared.category.Category.{Category}
use Rattle.rules.specs.Rules.{Rule, rule, is_short}
use Rattle.rules.specs.Books.{RuleBook}
use Rattle.domestic.specs.declared.rule.Terms.{Terms}

abbrev pub domestic_rules : Terms → Facts → List Rule
domestic_rules t f =
    -- 60, all: H above the LRA (1301 IV, 1608)
    rule 60 (f.hauledMass above t.coupling)
    -- 61, all: the column and every column to its right are missing (1502)
    ∷ rule 61 (t.line is 0)
    -- 62, all: a working engine not set to M, and H above 1,200 t (ME140), 800 t (ME120, ME100), any H (MA) (1602.2)
    ∷ rule 62 (f.workingNotM && (t.isma || f.hauledMass above t.alone))
    -- 63, all: H above the admissible mass (1607)
    ∷ rule 63 (f.hauledMass above t.admissible)
    -- 64, ME140: a record has a D load (1704)
    ∷ rule 64 (not t.isma && t.speed is 140 && f.dloads above 0)
    -- 65, all: a record is not joined to the brake pipe (1813, 4601)
    ∷ rule 65 f.notJoined
    -- 66, ME: a hauled record's permitted speed is below the category's (3201.3-5)
    ∷ rule 66 (not t.isma && t.speed above f.slowestHauled)
    -- 67, ME140, ME120: fewer than 2 wagons (3202.3)
    ∷ rule 67 (not t.isma && t.speed above 100 && f.fewWagons)
    -- 68, ME: L above 750 m (3203.3-4)
    ∷ rule 68 (not t.isma && f.trainLength above 7500)
    -- 69, ME: H above 1,600 t, or above 1,200 t and the train is not long (3203.3-4)
    ∷ rule 69 (not t.isma && (f.hauledMass above 16000 || f.hauledMass above 12000 && not f.long))
    -- 70, ME: a hauled engine stands behind a wagon (3204)
    ∷ rule 70 (not t.isma && f.behind)
    -- 71, ME: the train is long, and a hauled engine is not set to M (3204)
    ∷ rule 71 (not t.isma && f.long && f.hauledEngineNotM)
    -- 72, ME: more than 3 engines (3204, 3301)
    ∷ rule 72 (not t.isma && f.engines above 3)
    -- 73, ME: a working engine's permitted speed is below the category's (3301)
    ∷ rule 73 (not t.isma && t.speed above f.slowestWorking)
    -- 74, ME: a hauled record after the fifth set to M, or one set to M and the train is not long (3401.2, 1403.2)
    ∷ rule 74 (not t.isma && (f.afterFifthM || f.hauledM && not f.long))
    -- 75, ME: the first hauled record is isolated (3402)
    ∷ rule 75 (not t.isma && f.firstIsolated)
    -- 76, ME: the last hauled record is isolated (3402)
    ∷ rule 76 (not t.isma && f.lastIsolated)
    -- 77, ME: margin below 0 (3402)
    ∷ rule 77 (not t.isma && t.short)
    -- 78, MA: a hauled record's permitted speed is below the category's (4201.1-2)
    ∷ rule 78 (t.isma && t.speed above f.slowestHauled)
    -- 79, MA: L above 750 m (4202)
    ∷ rule 79 (t.isma && f.trainLength above 7500)
    -- 80, MA: a hauled engine is not set to M (4203)
    ∷ rule 80 (t.isma && f.hauledEngineNotM)
    -- 81, MA: a hauled engine stands behind a wagon (4203)
    ∷ rule 81 (t.isma && f.behind)
    -- 82, MA: more than 6 engines (4203, 4301)
    ∷ rule 82 (t.isma && f.engines above 6)
    -- 83, MA: a working engine's permitted speed is below the category's (4301)
    ∷ rule 83 (t.isma && t.speed above f.slowestWorking)
    -- 84, MA: V masses of records set to V above 200 t (4401)
    ∷ rule 84 (t.isma && f.vmass above 2000)
    -- 85, MA: the first hauled record is isolated (4402.1)
    ∷ rule 85 (t.isma && f.firstIsolated)
    -- 86, MA: the last hauled record is isolated (4402.1)
    ∷ rule 86 (t.isma && f.lastIsolated)
    -- 87, MA: more than 10 successive hauled records isolated (4402.1)
    ∷ rule 87 (t.isma && f.longest above 10)
    -- 88, MA: margin below 0 (4402.1)
    ∷ rule 88 (t.isma && t.short)
    ∷ []

-- 62: the hauled mass of ME above which every working engine is set to M, 1,200 t in ME140, 800 t in ME120 and ME100
abbrev pub alone_above : ℕ → ℕ
alone_above speed = cond (speed is 140) 12000 8000

-- what a category and the order ask beside the facts
unfoldable pub terms_of : Category → Facts → Order → Terms
terms_of c f o =
    record {
      speed = c.speed;
      isma = c.isg;
      line = line_speed c o;
      alone = alone_above c.speed;
      coupling = o.coupling;
      admissible = o.admissible;
      short = is_short c f o;
    }

unfoldable pub domestic : RuleBook
domestic =
    record {
      rows = domestic_rows;
      -- there are no common rules; each category's byte is its own
      common = λ f. [];
      rules = λ c f o. domestic_rules (terms_of c f o) f;
      -- byte 15: 1 to 3 is asked and the train is long, at any hauled mass
      mark = λ asked f. 1 at_most asked && asked at_most 3 && f.long;
    }
