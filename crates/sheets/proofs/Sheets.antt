-- Laws of the sheet's figures and bytes, of both books. Assumes nothing.
use Prim.Native.Nat.{ℕ, ◌+◌, ◌-◌, ◌≤◌}
use native.Mathlib.Omega.{arith}
use mathlib.Core.Path.{◌≡◌, refl, sym, ap₂, subst, ap, ◌∙◌}
use mathlib.Core.Bool.{Bool, true, false, cond}
use mathlib.Core.List.{List, [], ◌∷◌, ◌++◌, map}
use borrow.Rule.Slice.PartMut.{put_mid}
use lib.ListN.{length, get_or, take, drop, replicate}
use Rattle.std.proofs.lemmas.List.{take-append-le, drop-drop, drop_at, drop-replicate}
use Rattle.std.specs.Int.{from_bool}
use Rattle.lists.specs.Words.{◌is◌, ◌at_most◌, Every}
use Rattle.margin.specs.Margin.{fourfold, tonnes_of, bytes_of, Reached}
use Rattle.facts.specs.Facts.{Bounded}
use Rattle.facts.specs.declared.Facts.{Facts}
use Rattle.order.specs.declared.Book.{Book}
use Rattle.order.specs.declared.Book.TheVariants.{CrossBorder, Domestic}
use Rattle.order.specs.declared.Order.{Order}
use Rattle.categories.specs.Categories.{stepped, percentage_of, none, category_of, cross_rows, rows_of}
use Rattle.categories.specs.Brakes.{parts_of, deduction_of, margin_for}
use Rattle.categories.specs.declared.category.Category.{Category}
use Rattle.categories.specs.declared.category.Steps.{Steps}
use Rattle.categories.specs.declared.category.Weigh.{Weigh}
use Rattle.categories.specs.declared.category.Weigh.TheVariants.{ThreeQuarters, Whole, Long}
use Rattle.rules.specs.Rules.{first_broken, terms_of}
use Rattle.rules.specs.Books.{broken_by}
use Rattle.rules.specs.CrossBorder.{common_rules, own_rules, cross_border}
use Rattle.rules.specs.Grants.{offer, offer_of, decision_of}
use Rattle.rules.specs.Withdrawn.{former_book, longer_than_all}
use Rattle.rules.specs.declared.grant.Decision.{Decision}
use Rattle.rules.proofs.Demands.{first_up_to, broken_kept, decision_kept}
use Rattle.domestic.specs.Rules.{domestic}
use Rattle.books.specs.Books.{book_of}
use Rattle.books.proofs.Demands.{book_rows}
use Rattle.sheets.specs.Sheets.{sheet_length, margin_at, asked_of, figures_of, tail_bytes, sheet_bytes, sheet_of, in_most, head_bytes, common_by, laid}
use Rattle.sheets.specs.declared.Sheet.{Sheet}

-- the first common rule broken is what category 1 breaks, where that is at most 23
pub common_there : (b : Book) (f : Facts) (o : Order) → common_by b (get_or (decision_of (book_of b) f o).offers 0 (offer 0 0 0)).broken ≡ first_broken ((book_of b).common f)
unfolding decision_of offer_of book_of cross_border domestic broken_by
common_there CrossBorder f o = first_up_to 23 (common_rules f) (own_rules (terms_of (get_or cross_rows 0 none) f o) f) (omega arith) (omega arith)
common_there Domestic f o = refl

-- a mark as a byte
pub byte_of : (b : Bool) → from_bool b ≡ cond b 1 0
byte_of true = refl
byte_of false = refl

-- the bytes as they are laid are the sheet's
pub laid_sheet : (b : Book) (f : Facts) (o : Order)
    → laid (head_bytes (figures_of (book_of b) f o)) (tail_bytes (figures_of (book_of b) f o)) (sheet_length b) ≡ in_most (sheet_of (book_of b) f o)
unfolding sheet_of figures_of decision_of offer_of book_of cross_border domestic
laid_sheet CrossBorder f o = refl
laid_sheet Domestic f o = refl

-- a sheet ends where a tail over the head can, which has ten bytes
pub length_within : (b : Book) → (23 ≤ sheet_length b) × (sheet_length b ≤ 33)
length_within CrossBorder = omega arith
length_within Domestic = omega arith

-- the tail ends at n, and behind it are what is left of 23 zeros
pub two_copies : (head tail : List ℕ) (n : ℕ) → length head ≡ 10 → 23 ≤ n → n ≤ 33 → put_mid (n - 23) (n - (n - 23)) (head ++ replicate 23 0) tail ≡ laid head tail n
two_copies head tail n h low high =
    let front : n - 23 ≤ length head = omega arith in
    let end : n - 23 + (n - (n - 23)) ≡ 10 + (n - 10) = omega arith in
    let left : 23 - (n - 10) ≡ 33 - n = omega arith in
    ap₂ (λ (x y : List ℕ). x ++ (tail ++ y))
    (take-append-le (n - 23) head (replicate 23 0) front)
    (drop-drop (n - (n - 23)) (n - 23) (head ++ replicate 23 0)
    ∙ ap (λ (k : ℕ). drop k (head ++ replicate 23 0)) end
    ∙ sym (drop-drop (n - 10) 10 (head ++ replicate 23 0))
    ∙ ap (drop (n - 10)) (drop_at head (replicate 23 0) 10 h)
    ∙ drop-replicate (n - 10) 23 0
    ∙ ap (λ (k : ℕ). replicate k 0) left)

-- where the margin stands
pub margin_bytes_there : (b : Book) (f : Facts) (o : Order) → take 3 (drop (margin_at b) (sheet_of (book_of b) f o)) ≡ bytes_of (tonnes_of (margin_for (asked_of (book_of b) o) f o))
unfolding sheet_of figures_of book_of cross_border domestic
margin_bytes_there CrossBorder f o = refl
margin_bytes_there Domestic f o = refl

-- by the former list of rules the sheet is the same, where what is decided is
pub sheet_kept : (f : Facts) → longer_than_all f ≡ false → (o : Order) → sheet_of former_book f o ≡ sheet_of cross_border f o
unfolding sheet_of figures_of former_book
sheet_kept f elsewhere o =
    ap₂ (λ (rules : List ℕ) (d : Decision). sheet_bytes rules (deciding d))
    (λ i. map (λ c. broken_kept f elsewhere c o i) cross_border.rows)
    (decision_kept f elsewhere o)
  where
    -- the same figures with this decision
    deciding : Decision → Sheet
    deciding d =
        let x = figures_of cross_border f o in
        record {
          asked = x.asked;
          common = x.common;
          decision = d;
          dloads = x.dloads;
          margin = x.margin;
          percentage = x.percentage;
          mark = x.mark;
          isolated = x.isolated;
          hauled = x.hauled;
          train = x.train;
          braked = x.braked;
          length = x.length;
        }

-- ---- what a margin of such facts is made of
abbrev StepsMost : Steps → Type 0
StepsMost p = Every (λ step. step.1 ≤ 200) p.up_to × (p.beyond ≤ 200)

-- a table's percentage is at most 108, at any train length
stepped_most : (p : Steps) → StepsMost p → (length : ℕ) → stepped p length ≤ 200
stepped_most p most length = first_most p.up_to most.0
  where
    first_most : (steps : List (ℕ × ℕ)) → Every (λ step. step.1 ≤ 200) steps → stepped (record { up_to = steps; beyond = p.beyond }) length ≤ 200
    first_most [] each = most.1
    first_most (step ∷ steps) each = go (length at_most step.0) (first_most steps each.1)
      where
        go : (b : Bool) → stepped (record { up_to = steps; beyond = p.beyond }) length ≤ 200 → cond b step.1 (stepped (record { up_to = steps; beyond = p.beyond }) length) ≤ 200
        go true rest = each.0
        go false rest = rest

asked_most : (n : ℕ) (rows : List Category) → Every (λ c. StepsMost c.percentage) rows → StepsMost (category_of n rows).percentage
asked_most n [] each = omega arith
asked_most n (c ∷ rows) each = go (n is c.number) (asked_most n rows each.1)
  where
    go : (b : Bool) → StepsMost (category_of n rows).percentage → StepsMost (cond b c (category_of n rows)).percentage
    go true rest = each.0
    go false rest = rest

percentages_most : (b : Book) → Every (λ c. StepsMost c.percentage) (rows_of b)
percentages_most CrossBorder = omega arith
percentages_most Domestic = omega arith

pub braked_most : (w : Weigh) (f : Facts) → Bounded f → fourfold (parts_of w f) ≤ 5520000
unfolding fourfold
braked_most ThreeQuarters f h = omega (arith, h.braked)
braked_most Whole f h = omega (arith, h.braked)
braked_most Long f h = omega (arith, h.engines_braked, h.wagons_braked)

deducted_most : (w : Weigh) (f : Facts) → deduction_of w f ≤ 10
deducted_most ThreeQuarters f = omega arith
deducted_most Whole f = omega arith
deducted_most Long f = omega arith

pub reached : (b : Book) (f : Facts) (o : Order) → fourfold (parts_of (asked_of (book_of b) o).weigh f) ≤ 5520000 → f.trainMass ≤ 505000 → o.german ≤ 200
    → Reached (fourfold (parts_of (asked_of (book_of b) o).weigh f)) (deduction_of (asked_of (book_of b) o).weigh f) (percentage_of (asked_of (book_of b) o) f o) f.trainMass
unfolding percentage_of
reached b f o braked mass german =
    let c = asked_of (book_of b) o in
    let most : StepsMost c.percentage = subst (λ (rows : List Category). StepsMost (category_of o.asked rows).percentage) (sym (book_rows b)) (asked_most o.asked (rows_of b) (percentages_most b)) in
    record {
      braked = braked;
      deducted = deducted_most c.weigh f;
      percentage = omega (arith, stepped_most c.percentage most f.trainLength, german);
      mass = mass;
    }
