-- `lists::number::number` meets its contract: `x` is the number of the bytes that the loop has had, from the last one on. Assumes nothing.
use Prim.Native.Nat.{ℕ, ◌<◌, ◌-◌, ◌+◌, ◌*◌, ◌^◌, min}
use mathlib.Core.Path.{◌≡◌, sym, ap, ◌∙◌}
use mathlib.Core.List.{List, [], ◌∷◌, reverse}
use native.Mathlib.Omega.{arith}
use lib.ListN.{length, get_or, take, drop, length-take, length-drop, length-append, length-reverse, drop_of_length-le}
use Rattle.std.proofs.lemmas.Grind.{get_or_default_zero}
use Rattle.std.proofs.lemmas.List.{get_or-reverse}
use Rattle.std.proofs.lemmas.Iterator.Adapters.{YieldsList-from_rev_slice}
use Rattle.std.proofs.lemmas.Iterator.Consumers.{YieldsList-turn}
use Rattle.lists.specs.Numbers.{little_endian}
use Rattle.lists.proofs.Numbers.{Bytes, bytes_take, bytes_drop, number_below, number_down}
use Rattle.lists.proofs.number.number.Goals as goal

-- behind `j` of the bytes, what the loop has read fits seven bytes, and one byte more makes the next number
module _ (bs : List ℕ) (w j x y : ℕ) (bytes : Bytes bs) (few : w ≡ min (length bs) 8) (read : x ≡ little_endian (drop (w - j) (take w bs)))
    (yields : (j < length (reverse (take w bs))) × (y ≡ get_or (reverse (take w bs)) j y)) where
  long : length (take w bs) ≡ w
  long = simp length-take (omega arith)

  within : j < w
  within = omega (arith, yields.0, length-reverse (take w bs), long)

  below : x < 256 ^ 7
  below = rw read (number_below (drop (w - j) (take w bs)) 7 (bytes_drop (w - j) (take w bs) (bytes_take w bs bytes)) (simp length-drop (omega (arith, long, within))))

  there : y ≡ get_or (take w bs) (w - j - 1) 0
  there =
      let place : length (take w bs) - 1 - j ≡ w - j - 1 = omega (arith, long, within) in
      yields.1
      ∙ get_or-reverse (take w bs) j y (omega (arith, long, within))
      ∙ ap (λ (k : ℕ). get_or (take w bs) k y) place
      ∙ get_or_default_zero (take w bs) (w - j - 1) y (omega (arith, long, within))

  small : y < 256
  small = omega (arith, there, bytes_take w bs bytes (w - j - 1))

  turn : (k z : ℕ) → k ≡ j + 1 → z ≡ y → x * 256 + z ≡ little_endian (drop (w - k) (take w bs))
  turn k z e f =
      let next : w - j - 1 ≡ w - k = omega arith in
      let more = ap (λ (i : ℕ). little_endian (drop i (take w bs))) next in
      omega (arith, number_down (take w bs) (w - j) (omega (arith, within)) (omega (arith, long)), read, there, more)

-- before the first turn nothing is read
unread : (bs : List ℕ) (w : ℕ) → 0 ≡ little_endian (drop (w - 0) (take w bs))
unfolding little_endian
unread bs w = ap little_endian (sym (drop_of_length-le (take w bs) (simp length-take (omega arith))))

pub loop-byte-init : goal.loop-byte-init
loop-byte-init c = unread c.args.bytes.now c.min-width.result

pub overflow_mul-x : goal.overflow_mul-x
overflow_mul-x c =
    let bs = c.args.bytes.now in
    let w = c.min-width.result in
    omega (
      arith,
      below bs w (length c.loop-byte.yielded) c.loop-byte.x c.in-Some.byte.now (λ i. omega (arith, c.type_inv.bytes i)) c.min-width.ensures c.loop-byte.invariant
          (YieldsList-turn (YieldsList-from_rev_slice (take w bs) cc) c.loop-byte.yielded c.loop-byte.byte-iterator c.loop-byte.yielded_by c.next.result c.next.new.self c.in-Some.byte c.in-Some.is c.next.ensures.steps),
    )

pub overflow_add-x : goal.overflow_add-x
overflow_add-x c =
    let bs = c.args.bytes.now in
    let w = c.min-width.result in
    omega (
      arith,
      c.from.ensures,
      small bs w (length c.loop-byte.yielded) c.loop-byte.x c.in-Some.byte.now (λ i. omega (arith, c.type_inv.bytes i)) c.min-width.ensures c.loop-byte.invariant
          (YieldsList-turn (YieldsList-from_rev_slice (take w bs) cc) c.loop-byte.yielded c.loop-byte.byte-iterator c.loop-byte.yielded_by c.next.result c.next.new.self c.in-Some.byte c.in-Some.is c.next.ensures.steps),
      below bs w (length c.loop-byte.yielded) c.loop-byte.x c.in-Some.byte.now (λ i. omega (arith, c.type_inv.bytes i)) c.min-width.ensures c.loop-byte.invariant
          (YieldsList-turn (YieldsList-from_rev_slice (take w bs) cc) c.loop-byte.yielded c.loop-byte.byte-iterator c.loop-byte.yielded_by c.next.result c.next.new.self c.in-Some.byte c.in-Some.is c.next.ensures.steps),
    )

pub loop-byte-preserved : goal.loop-byte-preserved
loop-byte-preserved c =
    let bs = c.args.bytes.now in
    let w = c.min-width.result in
    turn bs w (length c.loop-byte.yielded) c.loop-byte.x c.in-Some.byte.now (λ i. omega (arith, c.type_inv.bytes i)) c.min-width.ensures c.loop-byte.invariant
    (YieldsList-turn (YieldsList-from_rev_slice (take w bs) cc) c.loop-byte.yielded c.loop-byte.byte-iterator c.loop-byte.yielded_by c.next.result c.next.new.self c.in-Some.byte c.in-Some.is c.next.ensures.steps) _ _ (length-append c.loop-byte.yielded (c.in-Some.byte ∷ [])) c.from.ensures
