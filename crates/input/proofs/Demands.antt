-- What stands read, by name: a failure is never an end, and an interrupted read is no failure. Assumes nothing.
use Rattle.std.proofs.Common.{ℕ, zero, suc, ◌+◌, ◌-◌, ◌≡◌, ◌⊎◌, inl, inr, Bool, true, false, cond, eqb, ℤ, pos, negsuc, Result, Ok, Err, refl, ap, arith}
use Rattle.std.specs.declared.ops.ControlFlow.TheVariants.{Continue, Break}
use borrow.Author.Tests.{eqb-true}
use Rattle.input.specs.Inputs.{Step, interrupted, hung_up, input_after}

-- a read that failed fails the whole, whatever was read before, with its own number while no terminal was lost with it
pub failed_read : (done room : ℕ) (error : ℤ) (lost : Bool) → interrupted error ≡ false → input_after done room (Err error) lost ≡ Err (cond lost hung_up error)
failed_read done room error lost h = rw h

-- save one that a signal interrupted: what was read stands, and reading goes on
pub interrupted_read : (done room : ℕ) (error : ℤ) (lost : Bool) → interrupted error ≡ true → input_after done room (Err error) lost ≡ Ok (Continue done)
interrupted_read done room error lost h = rw h

-- errno 4, EINTR, is that one, and no other is
pub interrupted_by_4 : interrupted (pos 4) ≡ true
interrupted_by_4 = refl

pub interrupted_only : (error : ℤ) → interrupted error ≡ true → error ≡ pos 4
interrupted_only (pos n) h = ap pos (eqb-true n 4 h)
interrupted_only (negsuc n) h = cc

-- an end by which a terminal was lost fails the whole too
pub lost_terminal : (done room : ℕ) → input_after done room (Ok 0) true ≡ Err hung_up
lost_terminal done room = refl

pub end_of_input : (done room : ℕ) → input_after done room (Ok 0) false ≡ Ok (Break done)
end_of_input done room = refl

-- by the mark of a lost terminal, by the test of a full buffer, and by that of an interrupted read
whole_at_zero : (lost : Bool) (n m : ℕ) → cond {A = Step} lost (Err hung_up) (Ok (Break n)) ≡ Ok (Break m) → (lost ≡ false) × (m ≡ n)
whole_at_zero true n m h = absurd cc
whole_at_zero false n m h = (refl, cc)

whole_when_full : (full : Bool) (n m : ℕ) → cond {A = Step} full (Ok (Break n)) (Ok (Continue n)) ≡ Ok (Break m) → (full ≡ true) × (m ≡ n)
whole_when_full true n m h = (refl, cc)
whole_when_full false n m h = absurd cc

never_failed : (again : Bool) (n m : ℕ) (error : ℤ) → cond {A = Step} again (Ok (Continue n)) (Err error) ≡ Ok (Break m) → ⊥
never_failed true n m error h = cc
never_failed false n m error h = cc

-- whole only by an answer of 0 from what is still there, or by bytes that fill the room
pub whole_only : (done room m : ℕ) (answer : Result ℕ ℤ) (lost : Bool) → input_after done room answer lost ≡ Ok (Break m)
    → ((answer ≡ Ok 0) × (lost ≡ false) × (m ≡ done)) ⊎ ((answer ≡ Ok (room - done)) × (m ≡ room))
whole_only done room m (Ok zero) lost h = let e = whole_at_zero lost done m h in inl (refl, e.0, e.1)
whole_only done room m (Ok (suc n)) lost h =
    let e = whole_when_full (eqb (done + suc n) room) (done + suc n) m h in
    let f = eqb-true (done + suc n) room e.0 in
    inr (ap Ok (omega (arith, f)), omega (arith, f, e.1))
whole_only done room m (Err error) lost h = absurd (never_failed (interrupted error) done m (cond lost hung_up error) h)
