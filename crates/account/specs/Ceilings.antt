-- Document 01, "The account": the ceiling of each figure.
use Rattle.std.specs.Prelude.{ℕ, ◌≤◌, Bool, List, [], ◌∷◌, get_or}
use Rattle.lists.specs.Words.{◌at_most◌, all, Every}
use Rattle.account.specs.declared.Account.{Account}

-- a figure with its ceiling
pub record Figure : Type 0 where
  pub figure : ℕ
  pub ceiling : ℕ

infix 70 ◌up_to◌
abbrev pub ◌up_to◌ : ℕ → ℕ → Figure
x up_to n = record { figure = x; ceiling = n }

abbrev pub figures : Account → List Figure
figures a =
    a.count up_to 200
    ∷ a.mass up_to 500000
    ∷ a.vmass up_to 500000
    ∷ a.mmass up_to 500000
    ∷ a.length up_to 200000
    ∷ a.axles up_to 4800
    ∷ a.vaxles up_to 4800
    ∷ a.engines up_to 200
    ∷ a.mset up_to 200
    ∷ a.isolated up_to 200
    ∷ a.dloads up_to 200
    ∷ a.leading up_to 200
    ∷ a.trailing up_to 200
    ∷ a.longest up_to 200
    ∷ a.slowest up_to 200
    ∷ get_or a.first 0 0 up_to 4
    ∷ get_or a.first 1 0 up_to 4
    ∷ get_or a.first 2 0 up_to 4
    ∷ get_or a.first 3 0 up_to 4
    ∷ get_or a.first 4 0 up_to 4
    -- request Three
    ∷ a.vlength up_to 200000
    -- request Six
    ∷ a.enginemmass up_to 500000
    ∷ a.wagonvmass up_to 500000
    ∷ []

-- no figure is above its ceiling
unfoldable pub within : Account → Bool
within a = all (λ f. f.figure at_most f.ceiling) (figures a)

-- the same as a statement, which the additions of joining ask for
abbrev pub Within : Account → Type 0
Within a = Every (λ f. f.figure ≤ f.ceiling) (figures a)
