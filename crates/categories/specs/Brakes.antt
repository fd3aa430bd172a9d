-- Document 01, "Braked mass and margin", and request Six, over the facts of a train.
use Rattle.std.specs.Prelude.{ℕ, ◌+◌, ◌-◌, ◌/◌, min, ℤ}
use Rattle.margin.specs.Margin.{fourfold, margin_of, left_of}
use Rattle.margin.specs.declared.Braked.{Braked}
use Rattle.facts.specs.declared.Facts.{Facts}
use Rattle.order.specs.declared.Order.{Order}
use Rattle.categories.specs.Categories.{percentage_of}
use Rattle.categories.specs.declared.brake.Brakes.{Brakes}
use Rattle.categories.specs.declared.category.Category.{Category}
use Rattle.categories.specs.declared.category.Weigh.{Weigh}
use Rattle.categories.specs.declared.category.Weigh.TheVariants.{ThreeQuarters, Whole, Long}

-- the parts of Q: a record set to V its V mass; one set to M three quarters of its M mass in 1 to 3 (note 8), the whole in 4 and 5 and in MA;
-- in ME an engine set to M its whole M mass, a wagon set to M three quarters of its V mass (000, 1403.2)
abbrev pub parts_of : Weigh → Facts → Braked
parts_of ThreeQuarters f = record { set = f.vmass; whole = 0; reduced = f.mmass }
parts_of Whole f = record { set = f.vmass; whole = f.mmass; reduced = 0 }
parts_of Long f = record { set = f.vmass; whole = f.enginesMMass; reduced = f.wagonsVMass }

-- the begun 20 m by which a length passes 500 m (note 7)
abbrev pub begun_of : ℕ → ℕ
begun_of length = (length - 5000 + 199) / 200

-- the begun 20 m of a length, at most 10, in 1 to 3; nothing is deducted in 4 and 5, nor in the domestic book
abbrev pub deduction_by : Weigh → ℕ → ℕ
deduction_by ThreeQuarters length = min 10 (begun_of length)
deduction_by Whole length = 0
deduction_by Long length = 0

-- k, by the hauled vehicles braked in V (note 7, request Three)
abbrev pub deduction_of : Weigh → Facts → ℕ
deduction_of w f = deduction_by w f.hauledVLength

-- what brakes in the categories that weigh alike
abbrev pub brakes_of : Weigh → Facts → Brakes
brakes_of w f = record { parts = parts_of w f; k = deduction_of w f }

-- the margin by what brakes
abbrev pub margin_with : Brakes → Category → Facts → Order → ℤ
margin_with brakes c f o = margin_of (fourfold brakes.parts) brakes.k (percentage_of c f o) f.trainMass

-- the margin where k percent are deducted
abbrev pub margin_by : ℕ → Category → Facts → Order → ℤ
margin_by k c f o = margin_with (record { parts = parts_of c.weigh f; k = k }) c f o

-- the exact margin, in 4,000ths of a tonne
unfoldable pub margin_for : Category → Facts → Order → ℤ
margin_for c f o = margin_by (deduction_of c.weigh f) c f o

-- braked mass after deduction, in tenths rounded down
unfoldable pub braked_of : Category → Facts → ℕ
braked_of c f = left_of (fourfold (parts_of c.weigh f)) (deduction_of c.weigh f)
