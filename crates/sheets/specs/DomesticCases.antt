-- Request Six: the worked cases of the domestic book, and four whole sheets. Every bound of its rules, one by one, is in the table of limits of `domestic`.
use Rattle.std.specs.Prelude.{ℕ, Bool, true, false, List, [], ◌∷◌, ◌++◌, ℤ, pos, neg_ℤ, get_or, take, drop, replicate}
use Rattle.record.specs.declared.vehicle.Kind.{Kind}
use Rattle.record.specs.declared.vehicle.Kind.TheVariants.{Wagon, HauledEngine, WorkingEngine}
use Rattle.record.specs.declared.vehicle.Setting.{Setting}
use Rattle.record.specs.declared.vehicle.Setting.TheVariants.{Isolated, M, V, R}
use Rattle.record.specs.declared.vehicle.Vehicle.{Vehicle}
use Rattle.facts.specs.Facts.{facts_of}
use Rattle.facts.specs.declared.Facts.{Facts}
use Rattle.order.specs.declared.Book.TheVariants.{Domestic}
use Rattle.order.specs.declared.Order.{Order}
use Rattle.categories.specs.Brakes.{margin_for, braked_of}
use Rattle.domestic.specs.Rules.{domestic}
use Rattle.sheets.specs.Sheets.{asked_of, sheet_of}

-- ---- orders: columns, asked, LRA, admissible mass
abbrev ordered : List ℕ → ℕ → ℕ → ℕ → Order
ordered limits asked coupling admissible = record { book = Domestic; limits = limits; asked = asked; german = 0; coupling = coupling; admissible = admissible }

abbrev columns : List ℕ
columns = 140 ∷ 120 ∷ 100 ∷ 100 ∷ 90 ∷ 80 ∷ []

-- unless said: these columns, ME140 asked, LRA and admissible mass 100,000
abbrev asking : ℕ → Order
asking asked = ordered columns asked 100000 100000

abbrev order : Order
order = asking 1

abbrev loaded : ℕ → ℕ → Order
loaded coupling admissible = ordered columns 1 coupling admissible

abbrev on_line : List ℕ → Order
on_line limits = ordered limits 1 100000 100000

-- ---- vehicles
-- kind, mass, V, M, length, setting, joined, speed, D load; 4 axles; the number, here 18 for each, is read by no rule and stands on no sheet
abbrev vehicle : Kind → ℕ → ℕ → ℕ → ℕ → Setting → Bool → ℕ → Bool → Vehicle
vehicle kind mass v m length setting joined speed dload =
    record {
      number = 18;
      mass = mass;
      vmass = v;
      mmass = m;
      length = length;
      axles = 4;
      kind = kind;
      setting = setting;
      joined = joined;
      speed = speed;
      matrossow = false;
      dload = dload;
    }

-- E, HE: working and hauled engine, mass 900, V 1,000, M 800, length 200
abbrev e : Setting → Vehicle
e setting = vehicle WorkingEngine 900 1000 800 200 setting true 140 false

abbrev he : Setting → Vehicle
he setting = vehicle HauledEngine 900 1000 800 200 setting true 140 false

-- a wagon of length 150, by mass, V, M and setting; A: mass 600, V 1,500, M 800; C: mass 600, V 400, M 400
abbrev wagon : ℕ → ℕ → ℕ → Setting → Vehicle
wagon mass v m setting = vehicle Wagon mass v m 150 setting true 140 false

abbrev wa : Setting → Vehicle
wa setting = wagon 600 1500 800 setting

abbrev wc : Setting → Vehicle
wc setting = wagon 600 400 400 setting

abbrev with_d_load : Vehicle → Vehicle
with_d_load v = vehicle v.kind v.mass v.vmass v.mmass v.length v.setting v.joined v.speed true

abbrev unjoined : Vehicle → Vehicle
unjoined v = vehicle v.kind v.mass v.vmass v.mmass v.length v.setting false v.speed v.dload

-- ---- trains
-- B: E(M), five A(M), five C(V): it stands in all six, with V masses of exactly 2,000
abbrev b : List Vehicle
b = e M ∷ replicate 5 (wa M) ++ replicate 5 (wc V)

-- B with wagons of 730 and the last of this length
abbrev long_b : ℕ → List Vehicle
long_b last = e M ∷ replicate 5 (vehicle Wagon 600 1500 800 730 M true 140 false) ++ replicate 4 (vehicle Wagon 600 400 400 730 V true 140 false) ++ vehicle Wagon 600 400 400 last V true 140 false ∷ []

abbrev third_of : ℕ → List Vehicle
third_of speed = e M ∷ wa M ∷ wa M ∷ vehicle Wagon 600 1500 800 150 M true speed false ∷ wa M ∷ wa M ∷ replicate 5 (wc V)

abbrev with_engines : ℕ → List Vehicle
with_engines n = e M ∷ replicate n (he M) ++ wa M ∷ wa M ∷ []

abbrev behind_engine : ℕ → List Vehicle
behind_engine speed = vehicle WorkingEngine 900 1000 800 200 M true speed false ∷ replicate 5 (wa M) ++ replicate 5 (wc V)

abbrev with_isolated : ℕ → List Vehicle
with_isolated n = e M ∷ replicate 5 (wa M) ++ replicate 4 (wc V) ++ replicate n (wagon 1 400 400 Isolated) ++ wc V ∷ []

-- ---- what a case shows: first rules ME140 to MA80, asked, granted, speed, p, exact margin, mark, braked mass
pub record Line : Type 0 where
  pub rules : List ℕ
  pub asked : ℕ
  pub granted : ℕ
  pub speed : ℕ
  pub percentage : ℕ
  pub margin : ℤ
  pub mark : ℕ
  pub braked : ℕ

abbrev line : List ℕ → ℕ → ℕ → ℕ → ℕ → ℤ → ℕ → ℕ → Line
line rules asked granted speed percentage margin mark braked =
    record { rules = rules; asked = asked; granted = granted; speed = speed; percentage = percentage; margin = margin; mark = mark; braked = braked }

-- the sheet's bytes, the exact margin and the braked mass of the asked category
abbrev shown_by : List ℕ → Facts → Order → Line
shown_by sheet f o =
    line (take 6 (drop 4 sheet)) (get_or sheet 0 0) (get_or sheet 1 0) (get_or sheet 2 0) (get_or sheet 14 0) (margin_for (asked_of domestic o) f o) (get_or sheet 15 0) (braked_of (asked_of domestic o) f)

abbrev judged : Order → List Vehicle → Line
judged o train = shown_by (sheet_of domestic (facts_of train) o) (facts_of train) o

abbrev pub shown : List Line
shown =
    -- 30: B: E(M), 5 A(M), 5 C(V)
    judged order (b)
    -- 31a: B, LRA and admissible mass 6,000, train length 7,500
    ∷ judged (loaded 6000 6000) (long_b 730)
    -- 31b: B, LRA 5,999
    ∷ judged (loaded 5999 100000) (b)
    -- 31c: B, admissible mass 5,999
    ∷ judged (loaded 100000 5999) (b)
    -- 32: B, columns 140 0 100 0 0 0
    ∷ judged (on_line (140 ∷ 0 ∷ 100 ∷ 0 ∷ 0 ∷ 0 ∷ [])) (b)
    -- 33: B, one D load
    ∷ judged order (e M ∷ with_d_load (wa M) ∷ replicate 4 (wa M) ++ replicate 5 (wc V))
    -- 34: B, last wagon not joined and isolated
    ∷ judged order (e M ∷ replicate 5 (wa M) ++ replicate 4 (wc V) ++ unjoined (wc Isolated) ∷ [])
    -- 35a: B, third wagon of 100 km/h
    ∷ judged order (third_of 100)
    -- 35b: B, third wagon of 99 km/h
    ∷ judged order (third_of 99)
    -- 36b: E(M), one A(M)
    ∷ judged order (e M ∷ wa M ∷ [])
    -- 37b: B, train length 7,501
    ∷ judged order (long_b 731)
    -- 38a: E(M), 2 HE(M), 2 A(M)
    ∷ judged order (e M ∷ he M ∷ he M ∷ wa M ∷ wa M ∷ [])
    -- 38b: the same, second HE isolated
    ∷ judged order (e M ∷ he M ∷ he Isolated ∷ wa M ∷ wa M ∷ [])
    -- 38c: the same, second HE behind the first A
    ∷ judged order (e M ∷ he M ∷ wa M ∷ he M ∷ wa M ∷ [])
    -- 39a: E(M), 3 HE(M), 2 A(M)
    ∷ judged order (with_engines 3)
    -- 39b: E(M), 5 HE(M), 2 A(M)
    ∷ judged order (with_engines 5)
    -- 39c: E(M), 6 HE(M), 2 A(M)
    ∷ judged order (with_engines 6)
    -- 40a: B, engine of 80 km/h
    ∷ judged order (behind_engine 80)
    -- 40b: B, engine of 79 km/h
    ∷ judged order (behind_engine 79)
    -- 41a: B, sixth hauled set to M
    ∷ judged order (e M ∷ replicate 5 (wa M) ++ wc M ∷ replicate 4 (wc V))
    -- 41c: B, fifth hauled set to V, V mass 0
    ∷ judged order (e M ∷ replicate 4 (wa M) ++ wagon 600 0 800 V ∷ replicate 5 (wc V))
    -- long (1403.2): not B with its third hauled set to R, but with its sixth; nor B with a second working engine, set to V
    ∷ judged order (e M ∷ wa M ∷ wa M ∷ wa R ∷ wa M ∷ wa M ∷ replicate 5 (wc V))
    ∷ judged order (e M ∷ replicate 5 (wa M) ++ wc R ∷ replicate 4 (wc V))
    ∷ judged order (e M ∷ e V ∷ replicate 5 (wa M) ++ replicate 5 (wc V))
    -- 42a: B, first hauled isolated
    ∷ judged order (e M ∷ wa Isolated ∷ replicate 4 (wa M) ++ replicate 5 (wc V))
    -- 42b: B, last hauled isolated
    ∷ judged order (e M ∷ replicate 5 (wa M) ++ replicate 4 (wc V) ++ wc Isolated ∷ [])
    -- 43: B, one C of V 401
    ∷ judged order (e M ∷ replicate 5 (wa M) ++ wagon 600 401 400 V ∷ replicate 4 (wc V))
    -- 44a: B with ten isolated of mass 1 before its last
    ∷ judged order (with_isolated 10)
    -- 44b: B with eleven
    ∷ judged order (with_isolated 11)
    -- 4a: E(V), 10 W(V), V masses 6,693 in all: margin 0
    ∷ judged order (e V ∷ replicate 9 (wagon 600 569 500 V) ++ wagon 600 572 500 V ∷ [])
    -- 4b: V masses 6,692: margin -400, shown as -1 t
    ∷ judged order (e V ∷ replicate 9 (wagon 600 569 500 V) ++ wagon 600 571 500 V ∷ [])
    -- 6a: E(V), 10 W(V) of V 1,500, hauled mass 8,000
    ∷ judged order (e V ∷ replicate 9 (wagon 800 1500 500 V) ++ wagon 800 1500 500 V ∷ [])
    -- 6b: the same, hauled mass 8,001
    ∷ judged order (e V ∷ replicate 9 (wagon 800 1500 500 V) ++ wagon 801 1500 500 V ∷ [])
    -- 6d: E(V), 15 W(V) of V 1,500, hauled mass 12,000
    ∷ judged order (e V ∷ replicate 14 (wagon 800 1500 500 V) ++ wagon 800 1500 500 V ∷ [])
    -- 6e: the same, hauled mass 12,001
    ∷ judged order (e V ∷ replicate 14 (wagon 800 1500 500 V) ++ wagon 801 1500 500 V ∷ [])
    -- 6f: E(M), 15 W(V) of V 1,500, hauled mass 12,000
    ∷ judged order (e M ∷ replicate 14 (wagon 800 1500 500 V) ++ wagon 800 1500 500 V ∷ [])
    -- 6g: the same, hauled mass 12,001
    ∷ judged order (e M ∷ replicate 14 (wagon 800 1500 500 V) ++ wagon 801 1500 500 V ∷ [])
    -- 7b: E(M), 5 W(M), 10 W(V), V 1,500, M 900, hauled mass 16,000
    ∷ judged order (e M ∷ replicate 5 (wagon 1066 1500 900 M) ++ replicate 9 (wagon 1066 1500 900 V) ++ wagon 1076 1500 900 V ∷ [])
    -- 7c: the same, hauled mass 16,001
    ∷ judged order (e M ∷ replicate 5 (wagon 1066 1500 900 M) ++ replicate 9 (wagon 1066 1500 900 V) ++ wagon 1077 1500 900 V ∷ [])
    -- 8b: ME100 asked, E(M), 5 W(M) of V 401, 5 W(V) of V 500
    ∷ judged (asking 3) (e M ∷ replicate 5 (wagon 600 401 500 M) ++ replicate 5 (wagon 600 500 500 V))
    -- 18a: MA100 asked, E(M), 10 W(M), M masses 3,933 in all: margin 0
    ∷ judged (asking 4) (e M ∷ replicate 9 (wagon 600 600 313 M) ++ wagon 600 600 316 M ∷ [])
    -- 18b: M masses 3,932: margin -400
    ∷ judged (asking 4) (e M ∷ replicate 9 (wagon 600 600 313 M) ++ wagon 600 600 315 M ∷ [])
    ∷ []

abbrev pub expected : List Line
expected =
    -- 30
    line (0 ∷ 0 ∷ 0 ∷ 0 ∷ 0 ∷ 0 ∷ []) 1 1 140 97 (pos 692800) 1 8425
    -- 31a
    ∷ line (0 ∷ 0 ∷ 0 ∷ 0 ∷ 0 ∷ 0 ∷ []) 1 1 140 108 (pos 389200) 1 8425
    -- 31b
    ∷ line (60 ∷ 60 ∷ 60 ∷ 60 ∷ 60 ∷ 60 ∷ []) 1 0 0 97 (pos 692800) 1 8425
    -- 31c
    ∷ line (63 ∷ 63 ∷ 63 ∷ 63 ∷ 63 ∷ 63 ∷ []) 1 0 0 97 (pos 692800) 1 8425
    -- 32
    ∷ line (0 ∷ 0 ∷ 0 ∷ 61 ∷ 61 ∷ 61 ∷ []) 1 1 140 97 (pos 692800) 1 8425
    -- 33
    ∷ line (64 ∷ 0 ∷ 0 ∷ 0 ∷ 0 ∷ 0 ∷ []) 1 2 120 97 (pos 692800) 1 8425
    -- 34
    ∷ line (65 ∷ 65 ∷ 65 ∷ 65 ∷ 65 ∷ 65 ∷ []) 1 0 0 97 (pos 532800) 1 8025
    -- 35a
    ∷ line (66 ∷ 66 ∷ 0 ∷ 0 ∷ 0 ∷ 0 ∷ []) 1 3 100 97 (pos 692800) 1 8425
    -- 35b
    ∷ line (66 ∷ 66 ∷ 66 ∷ 78 ∷ 0 ∷ 0 ∷ []) 1 5 90 97 (pos 692800) 1 8425
    -- 36b
    ∷ line (67 ∷ 67 ∷ 0 ∷ 0 ∷ 0 ∷ 0 ∷ []) 1 3 100 97 (pos 188000) 1 1925
    -- 37b
    ∷ line (68 ∷ 68 ∷ 68 ∷ 79 ∷ 79 ∷ 79 ∷ []) 1 0 0 108 (pos 389200) 1 8425
    -- 38a
    ∷ line (0 ∷ 0 ∷ 0 ∷ 0 ∷ 0 ∷ 0 ∷ []) 1 1 140 97 (pos 346800) 1 4650
    -- 38b
    ∷ line (71 ∷ 71 ∷ 71 ∷ 80 ∷ 80 ∷ 80 ∷ []) 1 0 0 97 (pos 26800) 1 3850
    -- 38c
    ∷ line (70 ∷ 70 ∷ 70 ∷ 81 ∷ 81 ∷ 81 ∷ []) 1 0 0 97 (pos 346800) 1 4650
    -- 39a
    ∷ line (72 ∷ 72 ∷ 72 ∷ 0 ∷ 0 ∷ 0 ∷ []) 1 4 100 97 (pos 317600) 1 5450
    -- 39b
    ∷ line (72 ∷ 72 ∷ 72 ∷ 0 ∷ 0 ∷ 0 ∷ []) 1 4 100 97 (pos 259200) 1 7050
    -- 39c
    ∷ line (72 ∷ 72 ∷ 72 ∷ 82 ∷ 82 ∷ 82 ∷ []) 1 0 0 97 (pos 230000) 1 7850
    -- 40a
    ∷ line (73 ∷ 73 ∷ 73 ∷ 83 ∷ 83 ∷ 0 ∷ []) 1 6 80 97 (pos 692800) 1 8425
    -- 40b
    ∷ line (73 ∷ 73 ∷ 73 ∷ 83 ∷ 83 ∷ 83 ∷ []) 1 0 0 97 (pos 692800) 1 8425
    -- 41a
    ∷ line (74 ∷ 74 ∷ 74 ∷ 0 ∷ 0 ∷ 0 ∷ []) 1 4 100 97 (pos 652800) 1 8325
    -- 41c
    ∷ line (74 ∷ 74 ∷ 74 ∷ 0 ∷ 0 ∷ 0 ∷ []) 1 4 100 97 (pos 242800) 0 7300
    -- long
    ∷ line (74 ∷ 74 ∷ 74 ∷ 0 ∷ 0 ∷ 0 ∷ []) 1 4 100 97 (pos 242800) 0 7300
    ∷ line (0 ∷ 0 ∷ 0 ∷ 0 ∷ 0 ∷ 0 ∷ []) 1 1 140 97 (pos 532800) 1 8025
    ∷ line (74 ∷ 74 ∷ 74 ∷ 62 ∷ 62 ∷ 62 ∷ []) 1 0 0 97 (pos 743600) 0 9425
    -- 42a
    ∷ line (75 ∷ 75 ∷ 75 ∷ 85 ∷ 85 ∷ 85 ∷ []) 1 0 0 97 (pos 242800) 1 7300
    -- 42b
    ∷ line (76 ∷ 76 ∷ 76 ∷ 86 ∷ 86 ∷ 86 ∷ []) 1 0 0 97 (pos 532800) 1 8025
    -- 43
    ∷ line (0 ∷ 0 ∷ 0 ∷ 84 ∷ 84 ∷ 84 ∷ []) 1 1 140 97 (pos 693200) 1 8426
    -- 44a
    ∷ line (0 ∷ 0 ∷ 0 ∷ 0 ∷ 0 ∷ 0 ∷ []) 1 1 140 97 (pos 688920) 1 8425
    -- 44b
    ∷ line (0 ∷ 0 ∷ 0 ∷ 87 ∷ 87 ∷ 87 ∷ []) 1 1 140 97 (pos 688532) 1 8425
    -- 4a
    ∷ line (0 ∷ 0 ∷ 0 ∷ 62 ∷ 62 ∷ 62 ∷ []) 1 1 140 97 (pos 0) 0 6693
    -- 4b
    ∷ line (77 ∷ 0 ∷ 0 ∷ 62 ∷ 62 ∷ 62 ∷ []) 1 2 120 97 (neg_ℤ (pos 400)) 0 6692
    -- 6a
    ∷ line (0 ∷ 0 ∷ 0 ∷ 62 ∷ 62 ∷ 62 ∷ []) 1 1 140 97 (pos 2946800) 0 16000
    -- 6b
    ∷ line (0 ∷ 62 ∷ 62 ∷ 62 ∷ 62 ∷ 62 ∷ []) 1 1 140 97 (pos 2946412) 0 16000
    -- 6d
    ∷ line (0 ∷ 62 ∷ 62 ∷ 62 ∷ 62 ∷ 62 ∷ []) 1 1 140 97 (pos 4394800) 0 23500
    -- 6e
    ∷ line (62 ∷ 62 ∷ 62 ∷ 62 ∷ 62 ∷ 62 ∷ []) 1 0 0 97 (pos 4394412) 0 23500
    -- 6f
    ∷ line (0 ∷ 0 ∷ 0 ∷ 84 ∷ 84 ∷ 84 ∷ []) 1 1 140 97 (pos 4314800) 0 23300
    -- 6g
    ∷ line (69 ∷ 69 ∷ 69 ∷ 84 ∷ 84 ∷ 84 ∷ []) 1 0 0 97 (pos 4314412) 0 23300
    -- 7b
    ∷ line (0 ∷ 0 ∷ 0 ∷ 84 ∷ 84 ∷ 84 ∷ []) 1 1 140 97 (pos 2012800) 1 21425
    -- 7c
    ∷ line (69 ∷ 69 ∷ 69 ∷ 84 ∷ 84 ∷ 84 ∷ []) 1 0 0 97 (pos 2012412) 1 21425
    -- 8b
    ∷ line (77 ∷ 77 ∷ 0 ∷ 84 ∷ 84 ∷ 84 ∷ []) 3 3 100 60 (pos 265500) 1 4803
    -- 18a
    ∷ line (74 ∷ 74 ∷ 74 ∷ 0 ∷ 0 ∷ 0 ∷ []) 4 4 100 57 (pos 0) 0 3933
    -- 18b
    ∷ line (74 ∷ 74 ∷ 74 ∷ 88 ∷ 0 ∷ 0 ∷ []) 4 5 90 57 (neg_ℤ (pos 400)) 0 3932
    ∷ []

-- ---- whole sheets
abbrev pub whole_sheets : List (List ℕ)
whole_sheets =
    -- 30
    sheet_of domestic (facts_of (b)) order
    -- 4b
    ∷ sheet_of domestic (facts_of (e V ∷ replicate 9 (wagon 600 569 500 V) ++ wagon 600 571 500 V ∷ [])) order
    -- 8b
    ∷ sheet_of domestic (facts_of (e M ∷ replicate 5 (wagon 600 401 500 M) ++ replicate 5 (wagon 600 500 500 V))) (asking 3)
    -- 18b
    ∷ sheet_of domestic (facts_of (e M ∷ replicate 9 (wagon 600 600 313 M) ++ wagon 600 600 315 M ∷ [])) (asking 4)
    ∷ []

abbrev pub expected_sheets : List (List ℕ)
expected_sheets =
    -- 30
    (0x01 ∷ 0x01 ∷ 0x8c ∷ 0x00 ∷ 0x00 ∷ 0x00 ∷ 0x00 ∷ 0x00 ∷ 0x00 ∷ 0x00 ∷ 0x00 ∷ 0xad ∷ 0x00 ∷ 0x00 ∷ 0x61 ∷ 0x01 ∷ 0x00 ∷ 0x70 ∷ 0x17 ∷ 0x00 ∷ 0x00 ∷ 0xf4 ∷ 0x1a ∷ 0x00 ∷ 0x00 ∷ 0xe9 ∷ 0x20 ∷ 0x00 ∷ 0x00 ∷ 0xa4 ∷ 0x06 ∷ 0x00 ∷ 0x00 ∷ [])
    -- 4b
    ∷ (0x01 ∷ 0x02 ∷ 0x78 ∷ 0x00 ∷ 0x4d ∷ 0x00 ∷ 0x00 ∷ 0x3e ∷ 0x3e ∷ 0x3e ∷ 0x00 ∷ 0xff ∷ 0xff ∷ 0xff ∷ 0x61 ∷ 0x00 ∷ 0x00 ∷ 0x70 ∷ 0x17 ∷ 0x00 ∷ 0x00 ∷ 0xf4 ∷ 0x1a ∷ 0x00 ∷ 0x00 ∷ 0x24 ∷ 0x1a ∷ 0x00 ∷ 0x00 ∷ 0xa4 ∷ 0x06 ∷ 0x00 ∷ 0x00 ∷ [])
    -- 8b
    ∷ (0x03 ∷ 0x03 ∷ 0x64 ∷ 0x00 ∷ 0x4d ∷ 0x4d ∷ 0x00 ∷ 0x54 ∷ 0x54 ∷ 0x54 ∷ 0x00 ∷ 0x42 ∷ 0x00 ∷ 0x00 ∷ 0x3c ∷ 0x01 ∷ 0x00 ∷ 0x70 ∷ 0x17 ∷ 0x00 ∷ 0x00 ∷ 0xf4 ∷ 0x1a ∷ 0x00 ∷ 0x00 ∷ 0xc3 ∷ 0x12 ∷ 0x00 ∷ 0x00 ∷ 0xa4 ∷ 0x06 ∷ 0x00 ∷ 0x00 ∷ [])
    -- 18b
    ∷ (0x04 ∷ 0x05 ∷ 0x5a ∷ 0x00 ∷ 0x4a ∷ 0x4a ∷ 0x4a ∷ 0x58 ∷ 0x00 ∷ 0x00 ∷ 0x00 ∷ 0xff ∷ 0xff ∷ 0xff ∷ 0x39 ∷ 0x00 ∷ 0x00 ∷ 0x70 ∷ 0x17 ∷ 0x00 ∷ 0x00 ∷ 0xf4 ∷ 0x1a ∷ 0x00 ∷ 0x00 ∷ 0x5c ∷ 0x0f ∷ 0x00 ∷ 0x00 ∷ 0xa4 ∷ 0x06 ∷ 0x00 ∷ 0x00 ∷ [])
    ∷ []
