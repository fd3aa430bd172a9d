-- `record::vehicle::read` meets its contract: of 24 bytes a record that is good is read. Assumes nothing.
use mathlib.Core.Path.{◌≡◌, refl, sym, ap, ◌∙◌}
use mathlib.Core.Bool.{Bool, true, false, not, false≢true}
use lib.ListN.{length}
use mathlib.Core.List.{List}
use Prim.Native.Nat.{ℕ}
use Rattle.std.specs.Prelude.{Option, Some, None, is_some}
use Rattle.std.specs.Array.{IsWholeChunk}
use Rattle.record.specs.Records.{records_of}
use Rattle.record.specs.Vehicles.{good, reading, first_bad}
use Rattle.record.proofs.Vehicles.{length_bad, reading_bad, reading_good, is_nothing, alone_good}
use Rattle.record.proofs.vehicle.read.Goals as goal

pub returns-in_err-bytes : goal.returns-in_err-bytes
returns-in_err-bytes c =
    c.from_residual.ensures ∙ reading_bad c.args.bytes.now (length_bad c.args.bytes.now c.in_err-bytes.ensures.cases)

-- the scan of one record finds none where it is good,
-- and one where it is not
alone : (r : List ℕ) (o : Option ℕ) → length r ≡ 24 → o ≡ first_bad (records_of r) → is_some o ≡ not (good r)
alone r o l e = ap is_some e ∙ some_is (first_bad (records_of r)) ∙ ap not (alone_good r l)
  where
    some_is : (o : Option ℕ) → is_some o ≡ not (is_nothing o)
    some_is (Some i) = refl
    some_is None = refl

of_good : (r : List ℕ) (o : Option ℕ) → length r ≡ 24 → o ≡ first_bad (records_of r) → is_some o ≡ false → good r ≡ true
of_good r o l e none = go (good r) (sym (alone r o l e) ∙ none)
  where
    go : (g : Bool) → not g ≡ false → g ≡ true
    go true n = refl
    go false n = absurd (false≢true (sym n))

of_bad : (r : List ℕ) (o : Option ℕ) → length r ≡ 24 → o ≡ first_bad (records_of r) → is_some o ≡ true → good r ≡ false
of_bad r o l e some = go (good r) (sym (alone r o l e) ∙ some)
  where
    go : (g : Bool) → not g ≡ true → g ≡ false
    go true n = absurd (false≢true n)
    go false n = refl

-- the array is the bytes, and they are 24
whole : (xs ys : List ℕ) → IsWholeChunk xs ys 24 → (length ys ≡ 24) × (ys ≡ xs)
whole xs ys w = (ap length w.same ∙ w.long, w.same)

pub vehicle_of-requires : goal.vehicle_of-requires
vehicle_of-requires c = of_good c.in_ok-bytes.bytes.now c.first_bad.result (whole _ _ c.in_ok-bytes.ensures.cases).0 c.first_bad.ensures c.if-is_none.ensures

pub returns-then-is_none : goal.returns-then-is_none
returns-then-is_none c =
    let r = c.in_ok-bytes.bytes.now in
    let g = of_good r c.first_bad.result (whole _ _ c.in_ok-bytes.ensures.cases).0 c.first_bad.ensures c.if-is_none.ensures in
    c.vehicle_of.ensures ∙ reading_good r g ∙ ap reading (whole _ _ c.in_ok-bytes.ensures.cases).1

pub returns-else-is_none : goal.returns-else-is_none
returns-else-is_none c =
    let r = c.in_ok-bytes.bytes.now in
    reading_bad r (of_bad r c.first_bad.result (whole _ _ c.in_ok-bytes.ensures.cases).0 c.first_bad.ensures c.if-is_none.ensures)
    ∙ ap reading (whole _ _ c.in_ok-bytes.ensures.cases).1
