-- Document 01, "Answers that yield no sheet": each number from small trains and accounts for which it is given, and 0 beside them.
use Rattle.std.specs.Prelude.{ℕ, List, [], ◌∷◌, ◌++◌, take, get_or, replicate, Result, ⊤}
use Rattle.record.specs.Limits.{engine, wagon}
use Rattle.account.specs.Limits.{alone}
use Rattle.account.specs.declared.Account.{Account}
use Rattle.order.specs.Limits.{written as orders}
use Rattle.judge.specs.Answers.{answer_number, answer_place, train_answer, account_answer}
use Rattle.judge.specs.declared.Refusal.{Refusal}

-- a record with every field 0; engine and wagon are good ones
abbrev zeros : List ℕ
zeros = replicate 24 0

-- good orders: a cross-border and a domestic one
abbrev order : List ℕ
order = get_or orders 0 []

abbrev domestic_order : List ℕ
domestic_order = get_or orders 1 []

-- an account that says how many records it has and nothing else
abbrev counting : ℕ → Account
counting n = alone 0 n

-- number and place
abbrev told : Result ⊤ Refusal → ℕ × ℕ
told answer = (answer_number answer, answer_place answer)

-- a train on the cross-border order with room for its sheet, and engines with an account that counts so many
abbrev train : List ℕ → ℕ × ℕ
train vehicles = told (train_answer vehicles order 32)

abbrev engines : List ℕ → ℕ → ℕ × ℕ
engines vehicles count = told (account_answer vehicles (counting count) order 32)

abbrev pub answers : List (ℕ × ℕ)
answers =
    -- an engine and a wagon; two engines and a wagon
    train (engine ++ wagon)
    ∷ train (engine ++ engine ++ wagon)
    -- 1: empty, or no multiple of 24 bytes; 2: 201 records; 3: the third record
    ∷ train []
    ∷ train (take 47 (engine ++ wagon))
    ∷ train (replicate 4824 0)
    ∷ train (engine ++ wagon ++ zeros ++ zeros)
    -- 4: 23 bytes, or every field 0; 5: 31 bytes, and 32 for a domestic sheet, which has 33
    ∷ told (train_answer (engine ++ wagon) (take 23 order) 32)
    ∷ told (train_answer (engine ++ wagon) zeros 0)
    ∷ told (train_answer (engine ++ wagon) order 31)
    ∷ told (train_answer (engine ++ wagon) domestic_order 32)
    ∷ told (train_answer (engine ++ wagon) domestic_order 33)
    -- 11: a wagon first; 12: a working engine behind it; 13: three engines; 14: nothing hauled; 13 before 14
    ∷ train (wagon ++ engine)
    ∷ train (engine ++ wagon ++ engine)
    ∷ train (engine ++ engine ++ engine ++ wagon)
    ∷ train (engine ++ engine)
    ∷ train (engine ++ engine ++ engine)
    -- engines with an account: one and 199 records; 1; 7; 2: 201 together; 3
    ∷ engines engine 199
    ∷ engines [] 1
    ∷ engines engine 201
    ∷ engines engine 200
    ∷ engines (engine ++ zeros) 1
    -- 4; 5; 11: one of them a wagon; 13; 14
    ∷ told (account_answer engine (counting 1) zeros 32)
    ∷ told (account_answer engine (counting 1) order 31)
    ∷ engines (engine ++ wagon) 1
    ∷ engines (engine ++ engine ++ engine) 1
    ∷ engines engine 0
    ∷ []

abbrev pub expected : List (ℕ × ℕ)
expected =
    (0, 0) ∷ (0, 0)
    ∷ (1, 0) ∷ (1, 0) ∷ (2, 0) ∷ (3, 2)
    ∷ (4, 0) ∷ (4, 0) ∷ (5, 0) ∷ (5, 0) ∷ (0, 0)
    ∷ (11, 0) ∷ (12, 0) ∷ (13, 0) ∷ (14, 0) ∷ (13, 0)
    ∷ (0, 0) ∷ (1, 0) ∷ (7, 0) ∷ (2, 0) ∷ (3, 1)
    ∷ (4, 0) ∷ (5, 0) ∷ (11, 0) ∷ (13, 0) ∷ (14, 0)
    ∷ []
