-- Demand 2 over the sheet's bytes: the theorems, over the definitions of specs/. Assumes nothing.
use Prim.Native.Nat.{ℕ, ◌+◌, ◌≤◌}
use mathlib.Core.Path.{◌≡◌, refl, ap, ◌∙◌}
use mathlib.Core.Bool.{false, cond}
use mathlib.Core.List.{[], map}
use lib.IntN.{ℤ, pos}
use lib.ListN.{length, get_or, take, drop}
use lib.Signed.{lt_z}
use Rattle.lists.specs.Numbers.{four_bytes}
use Rattle.margin.specs.Margin.{fourfold, tonnes_of, signed_of}
use Rattle.margin.proofs.Demands.{read_back_margin, below_zero}
use Rattle.facts.specs.Facts.{Bounded}
use Rattle.facts.specs.declared.Facts.{Facts}
use Rattle.order.specs.declared.Book.{Book}
use Rattle.order.specs.declared.Book.TheVariants.{CrossBorder, Domestic}
use Rattle.order.specs.declared.Order.{Order}
use Rattle.categories.specs.Categories.{percentage_of}
use Rattle.categories.specs.Brakes.{parts_of, margin_for, braked_of}
use Rattle.categories.specs.declared.category.Weigh.{Weigh}
use Rattle.rules.specs.Rules.{first_broken, is_short}
use Rattle.rules.specs.Books.{RuleBook, rules_of, broken_by}
use Rattle.rules.specs.CrossBorder.{cross_border}
use Rattle.rules.specs.Grants.{granted_of, granted_number, granted_speed, decision_of}
use Rattle.rules.specs.Withdrawn.{former_book, longer_than_all}
use Rattle.domestic.specs.Rules.{domestic}
use Rattle.books.specs.Books.{book_of}
use Rattle.sheets.specs.Sheets.{sheet_length, margin_at, asked_of, figures_of, sheet_of, in_most}
use Rattle.sheets.proofs.Sheets as sheets
use Rattle.sheets.proofs.Sheets.{reached, margin_bytes_there}

-- Q is as small as that of every train and account that is judged, whatever M counts
pub braked_most : (w : Weigh) (f : Facts) → Bounded f → fourfold (parts_of w f) ≤ 5520000
braked_most = sheets.braked_most

-- the named lengths are the pages', and the sheets have them
pub thirty_two : (f : Facts) (o : Order) → (sheet_length CrossBorder ≡ 32) × (length (sheet_of cross_border f o) ≡ 32)
unfolding sheet_of figures_of decision_of cross_border
thirty_two f o = (refl, refl)

pub thirty_three : (f : Facts) (o : Order) → (sheet_length Domestic ≡ 33) × (length (sheet_of domestic f o) ≡ 33)
unfolding sheet_of figures_of decision_of domestic
thirty_three f o = (refl, refl)

pub sheet_length_lem : (b : Book) (f : Facts) (o : Order) → length (sheet_of (book_of b) f o) ≡ sheet_length b
unfolding book_of
sheet_length_lem CrossBorder f o = (thirty_two f o).1
sheet_length_lem Domestic f o = (thirty_three f o).1

-- in 33 bytes it stands first
pub sheet_in_most : (b : Book) (f : Facts) (o : Order) → take (sheet_length b) (in_most (sheet_of (book_of b) f o)) ≡ sheet_of (book_of b) f o
unfolding sheet_of figures_of decision_of book_of cross_border domestic
sheet_in_most CrossBorder f o = refl
sheet_in_most Domestic f o = refl

module _ (f : Facts) (o : Order) where
  -- bytes 4 to 8, of a domestic sheet 4 to 9: the first rule broken by each category, or 0
  pub first_rule_lem : take 5 (drop 4 (sheet_of cross_border f o)) ≡ map (λ c. first_broken (rules_of cross_border c f o)) cross_border.rows
  unfolding sheet_of figures_of cross_border broken_by
  first_rule_lem = refl

  pub first_domestic_rule : take 6 (drop 4 (sheet_of domestic f o)) ≡ map (λ c. first_broken (rules_of domestic c f o)) domestic.rows
  unfolding sheet_of figures_of domestic broken_by
  first_domestic_rule = refl

  -- byte 3: the first common rule broken, or 0
  pub first_common_rule : (b : RuleBook) → get_or (sheet_of b f o) 3 0 ≡ first_broken (b.common f)
  unfolding sheet_of figures_of
  first_common_rule b = refl

  -- of a domestic sheet always 0
  pub domestic_byte_3 : get_or (sheet_of domestic f o) 3 0 ≡ 0
  unfolding sheet_of figures_of domestic
  domestic_byte_3 = refl

  -- bytes 0, 1 and 2: the category asked, the one granted and its speed, or 0 and 0
  pub asked_byte : (b : RuleBook) → get_or (sheet_of b f o) 0 0 ≡ o.asked
  unfolding sheet_of figures_of
  asked_byte b = refl

  pub granted_byte : (b : RuleBook) → get_or (sheet_of b f o) 1 0 ≡ granted_number (granted_of b f o)
  unfolding sheet_of figures_of decision_of
  granted_byte b = refl

  pub speed_byte : (b : RuleBook) → get_or (sheet_of b f o) 2 0 ≡ granted_speed (granted_of b f o)
  unfolding sheet_of figures_of decision_of
  speed_byte b = refl

  -- of what follows the rule bytes, from byte n on: records with D load, p, the mark, isolated records
  pub record SingleBytes (b : RuleBook) (n : ℕ) : Type 0 where
    pub dloads : get_or (sheet_of b f o) n 0 ≡ f.dloads
    pub percentage : get_or (sheet_of b f o) (n + 4) 0 ≡ percentage_of (asked_of b o) f o
    pub mark : get_or (sheet_of b f o) (n + 5) 0 ≡ cond (b.mark o.asked f) 1 0
    pub isolated : get_or (sheet_of b f o) (n + 6) 0 ≡ f.isolated

  -- hauled mass, train mass, braked mass after deduction, train length
  pub record MassBytes (b : RuleBook) (n : ℕ) : Type 0 where
    pub hauled : take 4 (drop (n + 7) (sheet_of b f o)) ≡ four_bytes f.hauledMass []
    pub train : take 4 (drop (n + 11) (sheet_of b f o)) ≡ four_bytes f.trainMass []
    pub braked : take 4 (drop (n + 15) (sheet_of b f o)) ≡ four_bytes (braked_of (asked_of b o) f) []
    pub length : take 4 (drop (n + 19) (sheet_of b f o)) ≡ four_bytes f.trainLength []

  -- from byte 9 on, and in a domestic sheet one byte later
  pub single_bytes : SingleBytes cross_border 9 × SingleBytes domestic 10
  unfolding sheet_of figures_of cross_border domestic
  single_bytes = (record { dloads = refl; percentage = refl; mark = refl; isolated = refl }, record { dloads = refl; percentage = refl; mark = refl; isolated = refl })

  pub mass_bytes : MassBytes cross_border 9 × MassBytes domestic 10
  unfolding sheet_of figures_of cross_border domestic
  mass_bytes = (record { hauled = refl; train = refl; braked = refl; length = refl }, record { hauled = refl; train = refl; braked = refl; length = refl })

  -- bytes 10-12, of a domestic sheet 11-13, read back with their sign are the asked category's margin in whole tonnes, rounded down; Q is four times the sum before k
  module _ (b : Book) (braked : fourfold (parts_of (asked_of (book_of b) o).weigh f) ≤ 5520000) (mass : f.trainMass ≤ 505000) (german : o.german ≤ 200) where
    pub margin_read_back : signed_of (take 3 (drop (margin_at b) (sheet_of (book_of b) f o))) ≡ tonnes_of (margin_for (asked_of (book_of b) o) f o)
    unfolding margin_for
    margin_read_back = ap signed_of (margin_bytes_there b f o) ∙ read_back_margin _ _ _ _ (reached b f o braked mass german)

    -- and below zero exactly when its braked mass is too small, which is rule 47, 77 or 88
    pub margin_true_sign : lt_z (signed_of (take 3 (drop (margin_at b) (sheet_of (book_of b) f o)))) (pos 0) ≡ is_short (asked_of (book_of b) o) f o
    margin_true_sign = ap (λ (z : ℤ). lt_z z (pos 0)) margin_read_back ∙ below_zero (margin_for (asked_of (book_of b) o) f o)

-- ---- rule 46, withdrawn by request Five
-- no byte of a sheet is another than by the former list, save where more than 700 m are said to be set to V in a hauled part of at most 700 m
pub sheet_kept : (f : Facts) → longer_than_all f ≡ false → (o : Order) → sheet_of former_book f o ≡ sheet_of cross_border f o
sheet_kept = sheets.sheet_kept
