-- Small trains whose facts are told one by one, in both readings: over the records, and beside the working engines from the account.
use Rattle.std.specs.Prelude.{ℕ, Bool, true, false, cond, List, [], ◌∷◌, ◌++◌, replicate}
use Rattle.record.specs.declared.vehicle.Vehicle.{Vehicle}
use Rattle.record.specs.declared.vehicle.Kind.{Kind}
use Rattle.record.specs.declared.vehicle.Kind.TheVariants.{Wagon, HauledEngine, WorkingEngine}
use Rattle.record.specs.declared.vehicle.Setting.{Setting}
use Rattle.record.specs.declared.vehicle.Setting.TheVariants.{Isolated, M, V, R}
use Rattle.account.specs.Accounts.{account_of}
use Rattle.facts.specs.Facts.{facts_of, facts_beside}
use Rattle.facts.specs.Named as name
use Rattle.facts.specs.declared.Facts.{Facts}

-- kind, setting; joined to the pipe, Matrossow brake, D load
abbrev marked : Kind → Setting → Bool → Bool → Bool → Vehicle
marked kind setting joined matrossow dload =
    record { number = 18; mass = 600; vmass = 500; mmass = 400; length = 150; axles = 4; kind = kind; setting = setting; joined = joined; speed = 120; matrossow = matrossow; dload = dload }

-- joined to the pipe and nothing else: a wagon, a hauled engine, a working engine; isolated, in M, in V, in R
abbrev wagon : Setting → Vehicle
wagon setting = marked Wagon setting true false false

abbrev hauled_engine : Setting → Vehicle
hauled_engine setting = marked HauledEngine setting true false false

abbrev engine : Setting → Vehicle
engine setting = marked WorkingEngine setting true false false

-- ---- marks
-- D loads, isolated records, and the names of the marks that hold
abbrev told_of : Facts → List ℕ
told_of f =
    f.dloads
    ∷ f.isolated
    ∷ (holding f.hauledM name.hauled_m
    ++ holding f.workingNotM name.working_not_m
    ++ holding f.firstFiveV name.first_five_v
    ++ holding f.afterFifthM name.after_fifth_m
    ++ holding f.firstIsolated name.first_isolated
    ++ holding f.lastIsolated name.last_isolated
    ++ holding f.behind name.behind
    ++ holding f.setR name.set_r
    ++ holding f.notJoined name.not_joined
    ++ holding f.matrossow name.matrossow
    ++ holding f.hauledEngineNotM name.hauled_engine_not_m
    ++ holding f.long name.long
    ++ holding f.fewWagons name.few_wagons)
  where
    holding : Bool → ℕ → List ℕ
    holding mark named = cond mark (named ∷ []) []

-- in both readings
abbrev both : {A : Type 0} → (Facts → A) → List Vehicle → List Vehicle → List A
both told working hauled = told (facts_of (working ++ hauled)) ∷ told (facts_beside working (account_of hauled)) ∷ []

abbrev twice : {A : Type 0} → A → List A
twice x = x ∷ x ∷ []

-- an engine in M before two wagons in V, of which each case changes one thing
abbrev hauled_by : Vehicle → List (List ℕ)
hauled_by e = both told_of (e ∷ []) (replicate 2 (wagon V))

abbrev hauling : List Vehicle → List (List ℕ)
hauling hauled = both told_of (engine M ∷ []) hauled

abbrev pub marks : List (List ℕ)
marks =
    hauled_by (engine M)
    -- the working engine in R; not joined; with a D load; isolated; in V; with byte 21 set, which 18 asks of wagons alone
    ++ hauled_by (engine R)
    ++ hauled_by (marked WorkingEngine M false false false)
    ++ hauled_by (marked WorkingEngine M true false true)
    ++ hauled_by (engine Isolated)
    ++ hauled_by (engine V)
    ++ hauled_by (marked WorkingEngine M true true false)
    -- two working engines, the second in V
    ++ both told_of (engine M ∷ engine V ∷ []) (replicate 2 (wagon M))
    -- a wagon in R; not joined; with a D load; with byte 21 set, and isolated too
    ++ hauling (wagon V ∷ wagon R ∷ wagon V ∷ [])
    ++ hauling (wagon V ∷ marked Wagon V false false false ∷ wagon V ∷ [])
    ++ hauling (wagon V ∷ marked Wagon V true false true ∷ wagon V ∷ [])
    ++ hauling (wagon V ∷ marked Wagon V true true false ∷ wagon V ∷ [])
    ++ hauling (wagon V ∷ marked Wagon Isolated true true false ∷ wagon V ∷ [])
    -- a hauled engine in front with byte 21 set, in M and in V; behind a wagon; with one wagon alone
    ++ hauling (marked HauledEngine M true true false ∷ replicate 2 (wagon V))
    ++ hauling (hauled_engine V ∷ replicate 2 (wagon V))
    ++ hauling (wagon V ∷ hauled_engine M ∷ wagon V ∷ [])
    ++ hauling (hauled_engine M ∷ wagon V ∷ [])
    -- the first, and the last, isolated
    ++ hauling (wagon Isolated ∷ replicate 2 (wagon V))
    ++ hauling (replicate 2 (wagon V) ++ wagon Isolated ∷ [])
    -- four in M and a fifth in V; five in M and a sixth in V; in M; in R; and R the fifth
    ++ hauling (replicate 4 (wagon M) ++ wagon V ∷ [])
    ++ hauling (replicate 5 (wagon M) ++ wagon V ∷ [])
    ++ hauling (replicate 5 (wagon M) ++ wagon M ∷ [])
    ++ hauling (replicate 5 (wagon M) ++ wagon R ∷ [])
    ++ hauling (replicate 4 (wagon M) ++ wagon R ∷ wagon V ∷ [])

abbrev pub expected_marks : List (List ℕ)
expected_marks =
    twice (0 ∷ 0 ∷ name.first_five_v ∷ [])
    ++ twice (0 ∷ 0 ∷ name.working_not_m ∷ name.first_five_v ∷ name.set_r ∷ [])
    ++ twice (0 ∷ 0 ∷ name.first_five_v ∷ name.not_joined ∷ [])
    ++ twice (1 ∷ 0 ∷ name.first_five_v ∷ [])
    ++ twice (0 ∷ 1 ∷ name.working_not_m ∷ name.first_five_v ∷ [])
    ++ twice (0 ∷ 0 ∷ name.working_not_m ∷ name.first_five_v ∷ [])
    ++ twice (0 ∷ 0 ∷ name.first_five_v ∷ [])
    ++ twice (0 ∷ 0 ∷ name.hauled_m ∷ name.working_not_m ∷ [])
    ++ twice (0 ∷ 0 ∷ name.first_five_v ∷ name.set_r ∷ [])
    ++ twice (0 ∷ 0 ∷ name.first_five_v ∷ name.not_joined ∷ [])
    ++ twice (1 ∷ 0 ∷ name.first_five_v ∷ [])
    ++ twice (0 ∷ 0 ∷ name.first_five_v ∷ name.matrossow ∷ [])
    ++ twice (0 ∷ 1 ∷ name.first_five_v ∷ [])
    ++ twice (0 ∷ 0 ∷ name.hauled_m ∷ name.first_five_v ∷ [])
    ++ twice (0 ∷ 0 ∷ name.first_five_v ∷ name.hauled_engine_not_m ∷ [])
    ++ twice (0 ∷ 0 ∷ name.hauled_m ∷ name.first_five_v ∷ name.behind ∷ [])
    ++ twice (0 ∷ 0 ∷ name.hauled_m ∷ name.first_five_v ∷ name.few_wagons ∷ [])
    ++ twice (0 ∷ 1 ∷ name.first_five_v ∷ name.first_isolated ∷ [])
    ++ twice (0 ∷ 1 ∷ name.first_five_v ∷ name.last_isolated ∷ [])
    ++ twice (0 ∷ 0 ∷ name.hauled_m ∷ name.first_five_v ∷ [])
    ++ twice (0 ∷ 0 ∷ name.hauled_m ∷ name.long ∷ [])
    ++ twice (0 ∷ 0 ∷ name.hauled_m ∷ name.after_fifth_m ∷ name.long ∷ [])
    ++ twice (0 ∷ 0 ∷ name.hauled_m ∷ name.set_r ∷ name.long ∷ [])
    ++ twice (0 ∷ 0 ∷ name.hauled_m ∷ name.set_r ∷ [])

-- ---- figures
abbrev figures_in : Facts → List ℕ
figures_in f =
    f.hauledMass
    ∷ f.trainMass
    ∷ f.hauledLength
    ∷ f.hauledVLength
    ∷ f.trainLength
    ∷ f.axles
    ∷ f.engines
    ∷ f.vmass
    ∷ f.mmass
    ∷ f.vaxles
    ∷ f.longest
    ∷ f.slowest
    ∷ f.enginesMMass
    ∷ f.wagonsVMass
    ∷ f.slowestHauled
    ∷ f.slowestWorking
    ∷ []

-- kind, setting, mass, V mass, M mass, length, axles, speed
abbrev vehicle : Kind → Setting → ℕ → ℕ → ℕ → ℕ → ℕ → ℕ → Vehicle
vehicle kind setting mass v m length axles speed =
    record { number = 18; mass = mass; vmass = v; mmass = m; length = length; axles = axles; kind = kind; setting = setting; joined = true; speed = speed; matrossow = false; dload = false }

-- working engines in V and in M, the second of this speed; hauled engines in M and in V; wagons in V, in M, two isolated, in R
abbrev train : ℕ → List (List ℕ)
train speed =
    both figures_in
    (vehicle WorkingEngine V 900 1001 810 201 4 140 ∷ vehicle WorkingEngine M 850 952 753 192 6 speed ∷ [])
    (vehicle HauledEngine M 840 704 655 183 6 125
    ∷ vehicle HauledEngine V 830 696 647 174 5 124
    ∷ vehicle Wagon V 600 508 459 165 4 123
    ∷ vehicle Wagon M 500 410 361 156 3 122
    ∷ vehicle Wagon Isolated 400 312 263 147 2 121
    ∷ vehicle Wagon Isolated 300 214 165 138 1 110
    ∷ vehicle Wagon R 200 116 167 129 8 112
    ∷ [])

-- the slowest record is a wagon of 110, and the engine
abbrev pub figures : List (List ℕ)
figures = train 130 ++ train 105

abbrev pub expected_figures : List (List ℕ)
expected_figures =
    -- masses: hauled, train; lengths: hauled, of them in V, train; axles; engines; V masses in V, M masses in M; axles in V; longest run of isolated;
    -- slowest record; M masses of engines in M, V masses of wagons in M; slowest hauled, slowest working engine
    twice (3670 ∷ 5420 ∷ 1092 ∷ 339 ∷ 1485 ∷ 39 ∷ 4 ∷ 2205 ∷ 1769 ∷ 13 ∷ 2 ∷ 110 ∷ 1408 ∷ 410 ∷ 110 ∷ 130 ∷ [])
    ++ twice (3670 ∷ 5420 ∷ 1092 ∷ 339 ∷ 1485 ∷ 39 ∷ 4 ∷ 2205 ∷ 1769 ∷ 13 ∷ 2 ∷ 105 ∷ 1408 ∷ 410 ∷ 110 ∷ 105 ∷ [])
