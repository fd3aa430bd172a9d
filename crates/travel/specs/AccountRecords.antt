-- An account as it travels: 128 bytes, numbers little-endian, the figures in document 01's order, then those of requests. A figure once given its bytes never moves.
use Rattle.std.specs.Prelude.{ℕ, ◌/◌, ◌%◌, ◌-◌, min, Bool, ◌&&◌, cond, List, [], ◌∷◌, ◌++◌, map, length, get_or, take, drop, replicate}
use Rattle.lists.specs.Words.{◌is◌, ◌at_most◌, all}
use Rattle.lists.specs.Numbers.{little_endian}
use Rattle.account.specs.Ceilings.{within}
use Rattle.account.specs.declared.Account.{Account}

-- the bytes of an account, and the first that is not used
abbrev pub size : ℕ
size = 128

abbrev pub unused_from : ℕ
unused_from = 82

-- ---- reading
-- the number in the four bytes from s on
abbrev pub figure_at : ℕ → List ℕ → ℕ
figure_at s bs = little_endian (take 4 (drop s bs))

abbrev pub byte_at : ℕ → List ℕ → ℕ
byte_at s bs = get_or bs s 0

-- where each figure stands
unfoldable pub account_in : List ℕ → Account
account_in bs =
    record {
      -- 0-3 count, 4-7 mass, 8-11 V masses set to V, 12-15 M masses set to M, 16-19 length
      count = figure_at 0 bs;
      mass = figure_at 4 bs;
      vmass = figure_at 8 bs;
      mmass = figure_at 12 bs;
      length = figure_at 16 bs;
      -- 20-23 axles, 24-27 axles set to V
      axles = figure_at 20 bs;
      vaxles = figure_at 24 bs;
      -- 28-31 hauled engines, 32-35 records set to M, 36-39 isolated, 40-43 D loads
      engines = figure_at 28 bs;
      mset = figure_at 32 bs;
      isolated = figure_at 36 bs;
      dloads = figure_at 40 bs;
      -- 44-47 leading, 48-51 trailing, 52-55 longest run of isolated
      leading = figure_at 44 bs;
      trailing = figure_at 48 bs;
      longest = figure_at 52 bs;
      -- marks: 56 an engine stands behind a wagon, 57 to 59 rules 16, 17, 18 are broken
      behind = byte_at 56 bs is 1;
      rule16 = byte_at 57 bs is 1;
      rule17 = byte_at 58 bs is 1;
      rule18 = byte_at 59 bs is 1;
      -- 60-63 slowest speed
      slowest = figure_at 60 bs;
      -- 64-68 the settings of the first five
      first = byte_at 64 bs ∷ byte_at 65 bs ∷ byte_at 66 bs ∷ byte_at 67 bs ∷ byte_at 68 bs ∷ [];
      -- 69-72 length of records set to V
      vlength = figure_at 69 bs;
      -- 73-76 M masses of hauled engines set to M, 77-80 V masses of wagons set to M, 81 mark: a hauled engine is not set to M
      enginemmass = figure_at 73 bs;
      wagonvmass = figure_at 77 bs;
      enginenotm = byte_at 81 bs is 1;
    }

abbrev pub marks_in : List ℕ → List ℕ
marks_in bs = byte_at 56 bs ∷ byte_at 57 bs ∷ byte_at 58 bs ∷ byte_at 59 bs ∷ byte_at 81 bs ∷ []

-- 82-127
abbrev pub unused_in : List ℕ → List ℕ
unused_in bs = drop unused_from bs

-- 128 bytes, a mark at most 1, an unused byte 0
unfoldable pub is_plain : List ℕ → Bool
is_plain bs = length bs is size && all (λ m. m at_most 1) (marks_in bs) && all (λ u. u is 0) (unused_in bs)

-- and no figure above its ceiling
abbrev pub is_account : List ℕ → Bool
is_account bs = is_plain bs && within (account_in bs)

-- bytes whose count is above its ceiling
abbrev pub above_ceiling : List ℕ
above_ceiling = 201 ∷ replicate (size - 1) 0

-- the account that bytes offer; where they are not plain one above its ceiling stands, so that 7 keeps its place in each order
unfoldable pub offered : List ℕ → Account
offered bs = account_in (cond (is_plain bs) bs above_ceiling)

-- ---- writing
-- a figure in four bytes: the last takes what is left, less than 256 of a 32-bit figure
abbrev pub figure_bytes : ℕ → List ℕ
figure_bytes x = x % 256 ∷ x / 256 % 256 ∷ x / 65536 % 256 ∷ x / 16777216 ∷ []

abbrev pub mark : Bool → ℕ
mark holds = cond holds 1 0

-- a setting above 255 is written as 255, so that it reads back above its ceiling
abbrev pub setting_byte : ℕ → ℕ
setting_byte s = min 255 s

-- the five first settings
abbrev pub five : List ℕ → List ℕ
five first = get_or first 0 0 ∷ get_or first 1 0 ∷ get_or first 2 0 ∷ get_or first 3 0 ∷ get_or first 4 0 ∷ []

-- the bytes of an account, one after the other
abbrev pub record_of : Account → List ℕ
record_of a =
    -- 0-55
    figure_bytes a.count
    ++ figure_bytes a.mass
    ++ figure_bytes a.vmass
    ++ figure_bytes a.mmass
    ++ figure_bytes a.length
    ++ figure_bytes a.axles
    ++ figure_bytes a.vaxles
    ++ figure_bytes a.engines
    ++ figure_bytes a.mset
    ++ figure_bytes a.isolated
    ++ figure_bytes a.dloads
    ++ figure_bytes a.leading
    ++ figure_bytes a.trailing
    ++ figure_bytes a.longest
    -- 56-59
    ++ (mark a.behind ∷ mark a.rule16 ∷ mark a.rule17 ∷ mark a.rule18 ∷ [])
    -- 60-63
    ++ figure_bytes a.slowest
    -- 64-68
    ++ map setting_byte (five a.first)
    -- 69-72
    ++ figure_bytes a.vlength
    -- 73-80
    ++ figure_bytes a.enginemmass
    ++ figure_bytes a.wagonvmass
    -- 81
    ++ (mark a.enginenotm ∷ [])
    -- 82-127 not used
    ++ replicate (size - unused_from) 0
