-- `order::book_in` meets its contract: what `get` gives is byte 7, or none where there is none. Assumes nothing.
use Rattle.std.proofs.Common.{◌≡◌, ℕ, Bool, true, false, cond, List, Option, None, Some, nat_eq, get_or, arith, refl, Bor}
use Rattle.std.specs.Option.{option_eq, option_map, unwrap_or}
use Rattle.order.specs.Orders.{book_in}
use Rattle.order.specs.declared.Book.TheVariants.{CrossBorder, Domestic}
use Rattle.order.proofs.Orders.{book_named}
use Rattle.order.proofs.book_in.Goals as goal

named : (r : List ℕ) (o : Option (Bor ℕ)) (y : Bor ℕ) → y.now ≡ 1 → unwrap_or (option_map (λ (x : Bor ℕ). x.now) o) 0 ≡ get_or r 7 0 → (b : Bool)
    → b ≡ option_eq (λ (x z : Bor ℕ). nat_eq x.now z.now) o (Some y) → cond b Domestic CrossBorder ≡ book_in r
named r None y one e b is = rw (is) (rw (← e) at (book_named r))
named r (Some x) y one e b is = rw (is, one) (rw (← e) at (book_named r))

pub returns-then-eq : goal.returns-then-eq
returns-then-eq c = named c.args.order.now c.get.result _ refl (c.get.ensures.lookup.4 (omega arith) 0) true c.if-eq.ensures

pub returns-else-eq : goal.returns-else-eq
returns-else-eq c = named c.args.order.now c.get.result _ refl (c.get.ensures.lookup.4 (omega arith) 0) false c.if-eq.ensures
