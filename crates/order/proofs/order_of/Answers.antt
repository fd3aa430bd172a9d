-- `order::order_of` meets its contract, field by field. Assumes nothing.
use Prim.Native.Nat.{ℕ, ◌<◌}
use native.Mathlib.Omega.{arith}
use mathlib.Core.Path.{◌≡◌, sym, ◌∙◌}
use lib.ListN.{get_or, take, drop}
use Rattle.lists.specs.Numbers.{little_endian}
use mathlib.Core.List.{[], ◌∷◌}
use Rattle.order.specs.Orders.{order_of}
use Rattle.lists.proofs.Numbers.{number_one, four_read}
use Rattle.order.proofs.order_of.Goals as goal

pub returns : goal.returns
unfolding order_of
returns c =
    let r = c.args.order.now in
    let byte : (i : ℕ) → i < 24 → get_or r i 0 ≡ little_endian (take 1 (drop i r)) = λ i h. sym (number_one r i (omega arith)) in
    λ i.
    record {
      book = c.book_in.ensures i;
      limits = byte 16 (omega arith) i ∷ byte 0 (omega arith) i ∷ byte 1 (omega arith) i ∷ byte 2 (omega arith) i ∷ byte 3 (omega arith) i ∷ byte 4 (omega arith) i ∷ [];
      asked = byte 5 (omega arith) i;
      german = byte 6 (omega arith) i;
      coupling = (c.from_le_bytes.ensures ∙ four_read r 8 (omega arith)) i;
      admissible = (c.from_le_bytes-2.ensures ∙ four_read r 12 (omega arith)) i;
    }
