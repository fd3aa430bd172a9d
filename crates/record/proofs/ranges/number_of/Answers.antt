-- `record::ranges::number_of` meets its contract: the row's field lies in the record, and is one, two, four or eight bytes wide. Assumes nothing.
use Prim.Native.Nat.{ℕ, ◌+◌, ◌≤◌}
use mathlib.Core.Path.{◌≡◌, sym, ap, ◌∙◌}
use mathlib.Core.Bool.{true}
use mathlib.Core.List.{List}
use native.Mathlib.Omega.{arith}
use lib.ListN.{length, get_or, take, drop}
use Rattle.lists.specs.Numbers.{little_endian}
use Rattle.record.specs.Ranges.{value, field_of, placed}
use Rattle.lists.proofs.Numbers.{number_one, two_read, four_read, eight_read}
use Rattle.record.proofs.Tables.{lies_inside, eight_wide}
use Rattle.record.proofs.ranges.number_of.Goals as goal

-- a row's field that is `w` bytes wide
module _ (row : List ℕ) (w : ℕ) (wide : get_or row 1 0 ≡ w) (r : List ℕ) where
  inside : length r ≡ 24 → placed (field_of row) ≡ true → get_or row 0 0 + w ≤ length r
  inside l t = omega (arith, lies_inside (field_of row) t, wide)

  field_value : little_endian (take w (drop (get_or row 0 0) r)) ≡ value r (field_of row)
  field_value = ap (λ (n : ℕ). little_endian (take n (drop (get_or row 0 0) r))) (sym wide)

pub returns-in-1 : goal.returns-in-1
returns-in-1 c =
    let row = c.args.row in
    let r = c.args.bytes.now in
    let one = c.in-1.is in
    c.from.ensures ∙ sym (number_one r (get_or row 0 0) (omega (arith, inside row 1 one r (omega arith) c.requires))) ∙ field_value row 1 one r

pub returns-in-2 : goal.returns-in-2
returns-in-2 c =
    let row = c.args.row in
    let r = c.args.bytes.now in
    let two = c.in-2.is in
    c.from-in-2.ensures ∙ c.from_le_bytes.ensures ∙ two_read r (get_or row 0 0) (inside row 2 two r (omega arith) c.requires) ∙ field_value row 2 two r

pub returns-in-4 : goal.returns-in-4
returns-in-4 c =
    let row = c.args.row in
    let r = c.args.bytes.now in
    let four = c.in-4.is in
    c.from-in-4.ensures ∙ c.from_le_bytes-in-4.ensures ∙ four_read r (get_or row 0 0) (inside row 4 four r (omega arith) c.requires) ∙ field_value row 4 four r

pub returns-in_default : goal.returns-in_default
returns-in_default c =
    let row = c.args.row in
    let r = c.args.bytes.now in
    let eight = eight_wide (field_of row) c.requires (λ e. omega arith) (λ e. omega arith) (λ e. omega arith) in
    c.from_le_bytes-in_default.ensures ∙ eight_read r (get_or row 0 0) (inside row 8 eight r (omega arith) c.requires) ∙ field_value row 8 eight r
