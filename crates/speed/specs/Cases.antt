-- Document 01's vehicle that holds the speed, of short lists: the least byte 20, and the first in the train at a tie; and of portions of any kind.
use Rattle.std.specs.Prelude.{ℕ, List, [], ◌∷◌, ◌++◌, take, replicate}
use Rattle.record.specs.Limits.{engine, wagon, hauled_engine}
use Rattle.speed.specs.Speed.{holds_the_speed}

-- a record of a permitted speed, told from others by its bytes around it
abbrev permitted : ℕ → ℕ → List ℕ
permitted other speed = replicate 20 other ++ speed ∷ replicate 3 other

abbrev pub lists : List (List (List ℕ))
lists =
    -- none; one; the least in front, in the middle, last; two alike
    []
    ∷ (permitted 7 120 ∷ [])
    ∷ (permitted 9 80 ∷ permitted 8 100 ∷ permitted 7 120 ∷ [])
    ∷ (permitted 7 100 ∷ permitted 9 80 ∷ permitted 8 120 ∷ [])
    ∷ (permitted 7 120 ∷ permitted 8 100 ∷ permitted 9 80 ∷ [])
    ∷ (permitted 7 100 ∷ permitted 8 90 ∷ permitted 9 90 ∷ [])
    ∷ []

abbrev pub holding : List (List ℕ)
holding =
    []
    ∷ permitted 7 120
    ∷ permitted 9 80
    ∷ permitted 9 80
    ∷ permitted 9 80
    ∷ permitted 8 90
    ∷ []

-- ---- of two portions
-- good records: a working engine of 140 km/h, a wagon of 120, a hauled engine of 200
abbrev pub of_portions : List (List ℕ)
of_portions =
    -- a working engine alone, in either portion; in front of a wagon, of a hauled engine; behind them
    holds_the_speed engine []
    ∷ holds_the_speed [] engine
    ∷ holds_the_speed engine wagon
    ∷ holds_the_speed engine hauled_engine
    ∷ holds_the_speed (hauled_engine ++ engine) wagon
    -- both empty; a portion of 23 bytes; a bad record
    ∷ holds_the_speed [] []
    ∷ holds_the_speed engine (take 23 wagon)
    ∷ holds_the_speed (engine ++ replicate 24 0) wagon
    ∷ []

abbrev pub held : List (List ℕ)
held = engine ∷ engine ∷ wagon ∷ engine ∷ wagon ∷ [] ∷ [] ∷ [] ∷ []
