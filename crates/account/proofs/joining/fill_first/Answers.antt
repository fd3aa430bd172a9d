-- `account::joining::fill_first` meets its contract: from `n` on the right's settings stand. Assumes nothing.
use Prim.Native.Nat.{ℕ, ◌+◌, ◌-◌, ◌≤◌, ◌<◌}
use native.Mathlib.Omega.{arith}
use mathlib.Core.Path.{◌≡◌, sym, ap, ◌∙◌}
use mathlib.Core.List.{List, ◌++◌, append-nil}
use borrow.Author.Rules.{rules}
use borrow.Rule.Slice.PartMut.{put_mid}
use lib.ListN.{length, take, drop, length-drop, drop_of_length-le}
use lib.Seq.{take_all, take_at, length-take-le, take-append-add}
use Rattle.account.specs.Joining.{fill}
use Rattle.account.proofs.joining.fill_first.Goals as goal

module _ (a b : List ℕ) (n : ℕ) (la : length a ≡ 5) where
  -- the left has five: nothing is filled
  full : 5 ≤ n → a ≡ fill n a b
  full h = sym (take_at a b 5 la) ∙ ap (λ (l : List ℕ). take 5 (l ++ b)) (sym (take_all n a (omega arith)))

  -- the left is short: the rest is the right's
  short : n < 5 → (part : List ℕ) → part ≡ take (5 - n) b → put_mid n (5 - n) a part ≡ fill n a b
  short h part e =
      let end : length (drop n a) ≤ 5 - n = omega (arith, length-drop n a) in
      let five : length (take n a) + (5 - n) ≡ 5 = omega (arith, length-take-le n a (omega arith)) in
      ap (λ (l : List ℕ). take n a ++ (part ++ l)) (drop_of_length-le (drop n a) end)
      ∙ ap (λ (l : List ℕ). take n a ++ l) (append-nil part ∙ e)
      ∙ sym (take-append-add (take n a) b (5 - n))
      ∙ ap (λ (k : ℕ). take k (take n a ++ b)) five

pub returns-then-n-ge5 : goal.returns-then-n-ge5
returns-then-n-ge5 c = full c.args.left c.args.right c.args.n (search rules) c.if-n-ge5.true

pub returns : goal.returns
returns c = short c.args.left c.args.right c.args.n (search rules) c.if-n-ge5.false _ c.copy_from_slice.ensures.after
