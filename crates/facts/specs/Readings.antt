-- Document 01: "Judging reads the rules over the figures": what each asks over the records, and off an account.
use Rattle.std.specs.Prelude.{◌+◌, Bool, not, ◌&&◌, ◌||◌, List, take, drop}
use Rattle.lists.specs.Words.{◌is◌, ◌above◌, all}
use Rattle.record.specs.Vehicles.{is_hauled_engine, is_isolated, is_m, is_v, is_r}
use Rattle.record.specs.declared.vehicle.Vehicle.{Vehicle}
use Rattle.lists.specs.Figures.{count, some, first_is, last_is}
use Rattle.account.specs.declared.Account.{Account}
use Rattle.facts.specs.declared.engine.Engines.{Engines}

-- 19, 75, 85: first hauled vehicle isolated
abbrev pub first_isolated : List Vehicle → Bool
first_isolated hauled = first_is is_isolated hauled

abbrev pub first_isolated_by : Account → Bool
first_isolated_by a = a.leading above 0

-- 20, 76, 86: last hauled vehicle isolated
abbrev pub last_isolated : List Vehicle → Bool
last_isolated hauled = last_is is_isolated hauled

abbrev pub last_isolated_by : Account → Bool
last_isolated_by a = a.trailing above 0

-- in 43: one of the first five hauled (all, if fewer) set to V
abbrev pub first_five_v : List Vehicle → Bool
first_five_v hauled = some is_v (take 5 hauled)

abbrev pub first_five_v_by : Account → Bool
first_five_v_by a = some (λ s. s is 2) a.first

-- in 44 and 74: a hauled vehicle after the fifth set to M
abbrev pub after_fifth_m : List Vehicle → Bool
after_fifth_m hauled = some is_m (drop 5 hauled)

abbrev pub after_fifth_m_by : Account → Bool
after_fifth_m_by a = a.mset above count (λ s. s is 1) a.first

-- request Six: braked as a long locomotive (000, 1403.2): every working engine set to M, none of the first five hauled (all, if fewer) set to V or R
abbrev pub is_long : List Vehicle → List Vehicle → Bool
is_long working hauled = all is_m working && not (some (λ v. is_v v || is_r v) (take 5 hauled))

abbrev pub is_long_by : Engines → Account → Bool
is_long_by e a = not e.notm && not (some (λ s. s is 2 || s is 3) a.first)

-- in 67: fewer than 2 wagons, what is hauled and no hauled engine being one
abbrev pub few_wagons : List Vehicle → Bool
few_wagons hauled = 2 above count (λ v. not (is_hauled_engine v)) hauled

abbrev pub few_wagons_by : Account → Bool
few_wagons_by a = a.engines + 2 above a.count
