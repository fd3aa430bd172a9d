-- What stands read of standard input, call by call: a read that fails is not an end.
use Rattle.std.specs.Prelude.{ℕ, zero, suc, ◌+◌, ◌≤◌, ◌≡◌, Bool, false, cond, List, length, take, eqb, ℤ, pos, negsuc, Result, Ok, Err, unwrap_or}
use Rattle.std.specs.declared.ops.ControlFlow.{ControlFlow}
use Rattle.std.specs.declared.ops.ControlFlow.TheVariants.{Continue, Break}
use Rattle.std.specs.IoError.{raw_os_error}
use Rattle.std.specs.declared.io.Error.{Error}

-- so many bytes lie at the start, and the part of the bytes up to there has as many
abbrev pub IsPrefixLen : ℕ → List ℕ → Type 0
IsPrefixLen n xs = (n ≤ length xs) × (n ≡ length (take n xs))

-- errno's number of a line that was hung up, EIO
abbrev pub hung_up : ℤ
hung_up = pos 5

-- errno's number of a call that a signal interrupted, EINTR
abbrev pub interrupted : ℤ → Bool
interrupted (pos n) = eqb n 4
interrupted (negsuc n) = false

-- what read answered: how many bytes, or the error's number
abbrev pub told : Result ℕ Error → Result ℕ ℤ
told (Ok n) = Ok n
told (Err e) = Err (unwrap_or (raw_os_error e) hung_up)

-- after a call of read: an error's number, the whole, or what stands while more may come
abbrev pub Step : Type 0
Step = Result (ControlFlow ℕ ℕ) ℤ

-- after `done` bytes of `room`, by what read answered, and whether a terminal was lost
abbrev pub input_after : ℕ → ℕ → Result ℕ ℤ → Bool → Step
-- a failure, save that an interrupted read goes on
input_after done room (Err error) lost = cond (interrupted error) (Ok (Continue done)) (Err (cond lost hung_up error))
-- so many more bytes: whole when the room is filled
input_after done room (Ok (suc n)) lost = cond (eqb (done + suc n) room) (Ok (Break (done + suc n))) (Ok (Continue (done + suc n)))
-- 0: the end, unless a terminal was lost with it
input_after done room (Ok zero) lost = cond lost (Err hung_up) (Ok (Break done))

-- the bytes that were read stand at the start of the buffer
abbrev pub Held : {E : Type 0} → Result ℕ E → List ℕ → Type 0
Held (Ok n) bytes = IsPrefixLen n bytes
Held (Err e) bytes = Unit {0}

-- and those that stand while more may come
abbrev pub Stands : Step → List ℕ → Type 0
Stands (Ok (Continue n)) bytes = IsPrefixLen n bytes
Stands (Ok (Break n)) bytes = IsPrefixLen n bytes
Stands (Err e) bytes = Unit {0}
