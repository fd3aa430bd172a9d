-- RC A 7a no 11 as document 01 condenses it: the rules, one line a rule, its number and article beside it.
use Rattle.std.specs.Prelude.{not, ◌&&◌, List, [], ◌∷◌, ◌++◌}
use Rattle.lists.specs.Words.{◌is◌, ◌above◌, ◌at_most◌}
use Rattle.facts.specs.declared.Facts.{Facts}
use Rattle.categories.specs.Categories.{cross_rows}
use Rattle.rules.specs.Rules.{Rule, rule, Terms, terms_of}
use Rattle.rules.specs.Books.{RuleBook}

-- common to every category
abbrev pub common_rules : Facts → List Rule
common_rules f =
    -- 15: a hauled engine stands behind a wagon (105)
    rule 15 f.behind
    -- 16: a record set to R
    ∷ rule 16 f.setR
    -- 17: a record not joined to the pipe
    ∷ rule 17 f.notJoined
    -- 18: a wagon with byte 21 set that is not isolated (102.7)
    ∷ rule 18 f.matrossow
    -- 19: first hauled vehicle isolated (202)
    ∷ rule 19 f.firstIsolated
    -- 20: last hauled vehicle isolated (202)
    ∷ rule 20 f.lastIsolated
    -- 21: train longer than 740 m (203)
    ∷ rule 21 (f.trainLength above 7400)
    -- 22: hauled part longer than 700 m (203)
    ∷ rule 22 (f.hauledLength above 7000)
    -- 23: more than 250 axles in the train (203)
    ∷ rule 23 (f.axles above 250)
    ∷ []

-- 31 to 44, which ask nothing that differs within 1 to 3, or within 4 and 5
abbrev pub family_rules : Terms → Facts → List Rule
family_rules t f =
    -- 31, all: more engines, working and hauled, than 3 (1 to 3) or 6 (4 and 5)
    rule 31 (f.engines above t.most)
    -- 32, 4 and 5: braked masses of records set to V above 200 t
    ∷ rule 32 (t.isg && f.vmass above 2000)
    -- 33, 4 and 5: more than 10 successive hauled vehicles isolated
    ∷ rule 33 (t.isg && f.longest above 10)
    -- 34, 4 and 5: more than 12 axles on records set to V
    ∷ rule 34 (t.isg && f.vaxles above 12)
    -- 35, 4 and 5: hauled mass above the smaller of LRA and admissible mass
    ∷ rule 35 (t.isg && f.hauledMass above t.load)
    -- 40, 1 to 3: hauled mass above 1,600 t
    ∷ rule 40 (not t.isg && f.hauledMass above 16000)
    -- 41, 1 to 3: hauled mass at most 1,200 t and a hauled vehicle set to M
    ∷ rule 41 (not t.isg && f.hauledMass at_most 12000 && f.hauledM)
    -- 42, 1 to 3: hauled mass above 800 t and a working engine not set to M
    ∷ rule 42 (not t.isg && f.hauledMass above 8000 && f.workingNotM)
    -- 43, 1 to 3: hauled mass above 1,200 t and one of the first five hauled set to V (note 6)
    ∷ rule 43 (not t.isg && f.hauledMass above 12000 && f.firstFiveV)
    -- 44, 1 to 3: hauled mass above 1,200 t and a hauled vehicle after the fifth set to M (note 6)
    ∷ rule 44 (not t.isg && f.hauledMass above 12000 && f.afterFifthM)
    ∷ []

-- after the common ones, in rising number
abbrev pub own_rules : Terms → Facts → List Rule
own_rules t f =
    -- 30, all: the column and every column to its right are missing (000, 1502)
    rule 30 (t.line is 0)
    ∷ family_rules t f
    -- 46 is withdrawn (request Five), and its number is given to no other rule
    -- 47, all: braked mass too small
    ++ rule 47 t.short
    ∷ []

abbrev pub cross_rules : Terms → Facts → List Rule
cross_rules t f = common_rules f ++ own_rules t f

unfoldable pub cross_border : RuleBook
cross_border =
    record {
      rows = cross_rows;
      common = common_rules;
      rules = λ c f o. cross_rules (terms_of c f o) f;
      -- byte 14: 1 to 3 is asked and hauled mass is above 1,200 t
      mark = λ asked f. 1 at_most asked && asked at_most 3 && f.hauledMass above 12000;
    }
