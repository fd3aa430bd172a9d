-- Document 01, "Tried on the bench": the trains of cases A to H, and what each case is to show.
use Rattle.std.specs.Prelude.{ℕ, true, false, List, [], ◌∷◌, ◌++◌, ℤ, pos, neg_ℤ, take, drop, get_or, replicate}
use Rattle.lists.specs.Numbers.{four_bytes, two_bytes}
use Rattle.record.specs.Vehicles.{vehicles}
use Rattle.record.specs.declared.vehicle.Kind.{Kind}
use Rattle.record.specs.declared.vehicle.Kind.TheVariants.{Wagon, HauledEngine, WorkingEngine}
use Rattle.record.specs.declared.vehicle.Setting.{Setting}
use Rattle.record.specs.declared.vehicle.Setting.TheVariants.{Isolated, M, V, R}
use Rattle.record.specs.declared.vehicle.Vehicle.{Vehicle}
use Rattle.facts.specs.Facts.{facts_of}
use Rattle.facts.specs.declared.Facts.{Facts}
use Rattle.order.specs.Orders.{order_of}
use Rattle.order.specs.declared.Book.TheVariants.{CrossBorder}
use Rattle.order.specs.declared.Order.{Order}
use Rattle.categories.specs.Categories.{category_of, cross_rows}
use Rattle.categories.specs.Brakes.{deduction_of, margin_for}
use Rattle.categories.specs.declared.category.Category.{Category}
use Rattle.rules.specs.Books.{broken_by}
use Rattle.rules.specs.CrossBorder.{cross_border}
use Rattle.sheets.specs.Sheets.{sheet_of}

-- ---- A, as bytes
-- all five columns 100, asked 1, byte 6 zero, limits 100,000
abbrev pub order_a : List ℕ
order_a = 100 ∷ 100 ∷ 100 ∷ 100 ∷ 100 ∷ 1 ∷ 0 ∷ 0 ∷ four_bytes 100000 (four_bytes 100000 (replicate 8 0))

-- number, mass, V, M, length; 4 axles; kind; set V; joined; speed; other flags 0
abbrev record_a : ℕ → ℕ → ℕ → ℕ → ℕ → ℕ → ℕ → List ℕ
record_a number mass v m length kind speed =
    four_bytes number (four_bytes 0 (two_bytes mass (two_bytes v (two_bytes m (two_bytes length (4 ∷ kind ∷ 2 ∷ 1 ∷ speed ∷ 0 ∷ 0 ∷ 0 ∷ []))))))

abbrev engine_a : List ℕ
engine_a = record_a 18 900 1000 800 200 2 140

abbrev wagon_bytes : ℕ → List ℕ
wagon_bytes number = record_a number 600 500 500 150 0 120

-- an engine and ten wagons; for 1 to 11 the eleven least numbers that close (request Two)
abbrev pub train_a : List ℕ
train_a =
    engine_a
    ++ wagon_bytes 26
    ++ wagon_bytes 34
    ++ wagon_bytes 42
    ++ wagon_bytes 59
    ++ wagon_bytes 67
    ++ wagon_bytes 75
    ++ wagon_bytes 83
    ++ wagon_bytes 91
    ++ wagon_bytes 109
    ++ wagon_bytes 117

abbrev pub sheet_a : List ℕ
sheet_a =
    0x01 ∷ 0x01 ∷ 0x64 ∷ 0x00 ∷ 0x00 ∷ 0x00 ∷ 0x00 ∷ 0x20
    ∷ 0x20 ∷ 0x00 ∷ 0x44 ∷ 0x00 ∷ 0x00 ∷ 0x4d ∷ 0x00 ∷ 0x00
    ∷ 0x70 ∷ 0x17 ∷ 0x00 ∷ 0x00 ∷ 0xf4 ∷ 0x1a ∷ 0x00 ∷ 0x00
    ∷ 0x70 ∷ 0x17 ∷ 0x00 ∷ 0x00 ∷ 0xa4 ∷ 0x06 ∷ 0x00 ∷ 0x00
    ∷ []

-- ---- B to H, as what their records say
-- A's order, with this category asked
abbrev asking : ℕ → Order
asking asked = record { book = CrossBorder; limits = 0 ∷ replicate 5 100; asked = asked; german = 0; coupling = 100000; admissible = 100000 }

-- 4 axles, joined, other flags 0; the number, here 18 for each, is read by no rule and stands on no sheet
abbrev vehicle : Kind → ℕ → ℕ → ℕ → ℕ → Setting → ℕ → Vehicle
vehicle kind mass v m length setting speed =
    record {
      number = 18;
      mass = mass;
      vmass = v;
      mmass = m;
      length = length;
      axles = 4;
      kind = kind;
      setting = setting;
      joined = true;
      speed = speed;
      matrossow = false;
      dload = false;
    }

-- behind A's engine: mass 900, V 1,000, M 800, length 200, set V, speed 140
abbrev behind : List Vehicle → Facts
behind hauled = facts_of (vehicle WorkingEngine 900 1000 800 200 V 140 ∷ hauled)

-- mass 600, M 500, length 150, set V, speed 120
abbrev wagon_a : ℕ → Vehicle
wagon_a v = vehicle Wagon 600 v 500 150 V 120

-- E by its length and setting, F and G by its mass, H by its setting and mass
abbrev wagon_e : ℕ → Setting → Vehicle
wagon_e length setting = vehicle Wagon 600 500 500 length setting 120

-- a hauled engine, A's set to V, by its length
abbrev hauled_engine_e : ℕ → Vehicle
hauled_engine_e length = vehicle HauledEngine 900 1000 800 length V 140

abbrev wagon_f : ℕ → Vehicle
wagon_f mass = vehicle Wagon mass 2500 500 150 V 120

abbrev wagon_h : ℕ → Setting → Vehicle
wagon_h mass setting = vehicle Wagon mass 500 500 150 setting 120

-- what a case shows: bytes, a margin, or a number
pub data Shown : Type 0 where
  bytes : List ℕ → Shown
  margin : ℤ → Shown
  number : ℕ → Shown

abbrev category : ℕ → Category
category n = category_of n cross_rows

-- the margin, bytes 10-12 and the granted category
abbrev margins : List Vehicle → List Shown
margins hauled =
    margin (margin_for (category 1) (behind hauled) (asking 1))
    ∷ bytes (take 3 (drop 10 (sheet_of cross_border (behind hauled) (asking 1))))
    ∷ number (get_or (sheet_of cross_border (behind hauled) (asking 1)) 1 0)
    ∷ []

abbrev k : List Vehicle → Shown
k hauled = number (deduction_of (category 1).weigh (behind hauled))

-- forty isolated metres, behind the first hauled vehicle
abbrev isolated_in : List Vehicle → List Vehicle
isolated_in hauled = take 1 hauled ++ (wagon_e 400 Isolated ∷ drop 1 hauled)

-- k of a train, and of the same with the isolated metres in it
abbrev k_both : List Vehicle → List Shown
k_both hauled = k hauled ∷ k (isolated_in hauled) ∷ []

abbrev broken : ℕ → List Vehicle → Shown
broken n hauled = number (broken_by cross_border (category n) (behind hauled) (asking 1))

abbrev byte14 : ℕ → List Vehicle → Shown
byte14 asked hauled = number (get_or (sheet_of cross_border (behind hauled) (asking asked)) 14 0)

abbrev isolated : ℕ → List Vehicle
isolated n = wagon_h 600 M ∷ replicate n (wagon_h 100 Isolated) ++ (wagon_h 600 M ∷ [])

abbrev pub shown : List Shown
shown =
    -- A: the sheet, and the exact margin
    bytes (sheet_of cross_border (facts_of (vehicles train_a)) (order_of order_a))
    ∷ margin (margin_for (category 1) (facts_of (vehicles train_a)) (order_of order_a))
    -- B: wagons' V 430; C: nine at 431, one at 432; D: seven at 431, three at 432
    ∷ margins (replicate 10 (wagon_a 430))
    ++ margins (replicate 9 (wagon_a 431) ++ replicate 1 (wagon_a 432))
    ++ margins (replicate 7 (wagon_a 431) ++ replicate 3 (wagon_a 432))
    -- E: k at 5,000, 5,001, 5,200, 5,201 and 7,000 set to V, each also with forty isolated metres (request Three)
    ++ k_both (replicate 5 (wagon_e 1000 V))
    ++ k_both (wagon_e 1 V ∷ replicate 5 (wagon_e 1000 V))
    ++ k_both (wagon_e 200 V ∷ replicate 5 (wagon_e 1000 V))
    ++ k_both (wagon_e 201 V ∷ replicate 5 (wagon_e 1000 V))
    ++ k_both (replicate 7 (wagon_e 1000 V))
    -- and beside 5,000 set to V a hauled engine of 1 set to V, a wagon of 400 set to M, one set to R
    ++ k_both (hauled_engine_e 1 ∷ replicate 5 (wagon_e 1000 V))
    ++ k_both (wagon_e 400 M ∷ replicate 5 (wagon_e 1000 V))
    ++ k_both (wagon_e 400 R ∷ replicate 5 (wagon_e 1000 V))
    -- F: hauled 8,000 with the engine in V, and 8,001
    ++ (broken 1 (replicate 10 (wagon_f 800))
    ∷ broken 1 (wagon_f 801 ∷ replicate 9 (wagon_f 800))
    -- G: byte 14 at hauled 12,000 and at 12,001, with 1, 2, 3 asked, and with 4
    ∷ byte14 1 (replicate 10 (wagon_f 1200))
    ∷ byte14 1 (wagon_f 1201 ∷ replicate 9 (wagon_f 1200))
    ∷ byte14 2 (replicate 10 (wagon_f 1200))
    ∷ byte14 2 (wagon_f 1201 ∷ replicate 9 (wagon_f 1200))
    ∷ byte14 3 (replicate 10 (wagon_f 1200))
    ∷ byte14 3 (wagon_f 1201 ∷ replicate 9 (wagon_f 1200))
    ∷ byte14 4 (replicate 10 (wagon_f 1200))
    ∷ byte14 4 (wagon_f 1201 ∷ replicate 9 (wagon_f 1200))
    -- H: a longest run of ten isolated in category 5, and of eleven
    ∷ broken 5 (isolated 10)
    ∷ broken 5 (isolated 11)
    ∷ [])

abbrev pub expected : List Shown
expected =
    bytes sheet_a
    ∷ margin (pos 274800)
    ∷ margin (neg_ℤ (pos 5200))
    ∷ bytes (0xfe ∷ 0xff ∷ 0xff ∷ [])
    ∷ number 2
    ∷ margin (neg_ℤ (pos 800))
    ∷ bytes (0xff ∷ 0xff ∷ 0xff ∷ [])
    ∷ number 2
    ∷ margin (pos 0)
    ∷ bytes (0x00 ∷ 0x00 ∷ 0x00 ∷ [])
    ∷ number 1
    ∷ number 0 ∷ number 0
    ∷ number 1 ∷ number 1
    ∷ number 1 ∷ number 1
    ∷ number 2 ∷ number 2
    ∷ number 10 ∷ number 10
    ∷ number 1 ∷ number 1
    ∷ number 0 ∷ number 0
    ∷ number 0 ∷ number 0
    ∷ number 0
    ∷ number 42
    ∷ number 0
    ∷ number 1
    ∷ number 0
    ∷ number 1
    ∷ number 0
    ∷ number 1
    ∷ number 0
    ∷ number 0
    ∷ number 0
    ∷ number 33
    ∷ []
