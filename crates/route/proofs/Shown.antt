-- What a route that is done gives, over every section. Assumes nothing.
use Prim.Native.Nat.{ℕ, zero, suc, ◌≤◌, ◌<◌}
use native.Mathlib.Omega.{arith}
use mathlib.Core.Path.{◌≡◌, refl, sym, ap, ◌∙◌, subst}
use mathlib.Core.Bool.{true}
use mathlib.Core.List.{List, [], ◌∷◌, ◌++◌}
use mathlib.Core.Logic.{◌⊎◌, inl, inr}
use lib.ListN.{length, get_or, drop, length-append, length-drop}
use lib.Seq.{drop_at}
use Rattle.std.specs.Prelude.{Result, Ok, ⊤}
use Rattle.std.specs.Result.{result_unwrap_or}
use Rattle.lists.specs.Words.{all}
use Rattle.record.specs.Records.{record_count, records_of}
use Rattle.facts.specs.declared.Facts.{Facts}
use Rattle.order.specs.Orders.{no_order}
use Rattle.order.specs.declared.Order.{Order}
use Rattle.categories.specs.Categories.{category_of}
use Rattle.categories.specs.declared.category.Category.{Category}
use Rattle.rules.specs.Books.{RuleBook, Sound}
use Rattle.rules.specs.Grants.{Among, granted_number, granted_speed}
use Rattle.books.proofs.Demands.{book_sound}
use Rattle.sections.specs.Routes.{book_on, slowest_of, granted_on, section_speed, MayBeGrantedOn, OfferedOn}
use Rattle.sections.specs.Sections.{sections_of, asked_in, book_named_in, good_section}
use Rattle.sections.proofs.Demands as sections
use Rattle.judge.specs.Answers.{written}
use Rattle.judge.specs.declared.Refusal.{Refusal}
use Rattle.route.specs.Answers.{book_for, granted_for, speeds_for, route_by}
use Rattle.route.specs.Shown.{Shows}
use Rattle.route.proofs.Routes.{speeds_long}

front_byte : (bytes rest : List ℕ) (i : ℕ) → i < length bytes → get_or (bytes ++ rest) i 0 ≡ get_or bytes i 0
front_byte [] rest i h = absurd (omega arith)
front_byte (x ∷ bytes) rest zero h = refl
front_byte (x ∷ bytes) rest (suc i) h = front_byte bytes rest i (omega arith)

module _ (f : Facts) (orders before : List ℕ) (good : all (good_section (asked_in orders) (book_named_in orders)) (records_of orders) ≡ true) (room : record_count orders ≤ length before) where
  abbrev book : RuleBook
  book = book_for (sections_of orders)

  sound : Sound book
  sound = book_sound (book_on (sections_of orders))

  abbrev n : ℕ
  n = granted_for f orders

  abbrev after : List ℕ
  after = speeds_for f orders ++ drop (length (speeds_for f orders)) before

  long : length (speeds_for f orders) ≡ length (sections_of orders)
  long = speeds_long f orders ∙ sym (sections.sections_count orders)

  byte : (i : ℕ) → i < length (sections_of orders) → get_or after i 0 ≡ section_speed book n f (get_or (sections_of orders) i no_order)
  unfolding speeds_for
  byte i h = front_byte (speeds_for f orders) (drop (length (speeds_for f orders)) before) i (omega (arith, long)) ∙ sections.section_byte book f n (sections_of orders) i h

  none_none : (o : Order) → section_speed book 0 f o ≡ 0
  none_none o = ap (λ (bytes : List ℕ). get_or bytes 0 0) (sections.no_category_no_speed book f sound (o ∷ []))

  zero_or : (k : ℕ) → (k ≡ 0) ⊎ (0 < k)
  zero_or zero = inl refl
  zero_or (suc k) = inr (omega arith)

  -- where one may be granted, one is
  some_granted : (c : Category) → Among c book.rows → MayBeGrantedOn book f (sections_of orders) c → 0 < granted_number (granted_on book f (sections_of orders))
  some_granted c a m = go (zero_or (granted_number (granted_on book f (sections_of orders))))
    where
      go : (granted_number (granted_on book f (sections_of orders)) ≡ 0) ⊎ (0 < granted_number (granted_on book f (sections_of orders))) → 0 < granted_number (granted_on book f (sections_of orders))
      go (inl z) =
          absurd
          ((sections.breaks_exactly book f c (sections_of orders)).1
          (sections.none_granted book f sound (sections_of orders) z c a m.asked)
          ((sections.unbroken_exactly book f c (sections_of orders)).1 m.unbroken))
      go (inr p) = p

  granted_offered : 0 < granted_number (granted_on book f (sections_of orders))
      → OfferedOn book f (sections_of orders) (granted_number (granted_on book f (sections_of orders))) (slowest_of (category_of (granted_number (granted_on book f (sections_of orders))) book.rows) f (sections_of orders))
  granted_offered p =
      subst (OfferedOn book f (sections_of orders) (granted_number (granted_on book f (sections_of orders))))
      (sections.granted_speed book f sound (sections_of orders) p)
      (sections.granted_stands book f sound (sections_of orders) p)

  its_speed : (c : Category) → Among c book.rows → MayBeGrantedOn book f (sections_of orders) c
      → granted_speed (granted_on book f (sections_of orders)) ≡ slowest_of (category_of (granted_number (granted_on book f (sections_of orders))) book.rows) f (sections_of orders)
  its_speed c a m = sections.granted_speed book f sound (sections_of orders) (some_granted c a m)

  pub shows_over : Shows f (sections_of orders) n before after
  unfolding granted_for section_speed
  shows_over =
      record {
        asked = sections.all_ask_alike orders good;
        books = sections.all_name_alike orders good;
        none = sections.none_granted book f sound (sections_of orders);
        broken = sections.all_broken book f sound (sections_of orders);
        stands = granted_offered;
        fastest = λ c a m. subst (λ (s : ℕ). slowest_of c f (sections_of orders) ≤ s) (its_speed c a m) (sections.granted_is_fastest book f sound (sections_of orders) c a m);
        lowest = λ c a m e. sections.lowest_at_a_tie book f sound (sections_of orders) c a m (e ∙ sym (its_speed c a m));
        bytes = byte;
        zeros = λ z i h. byte i h ∙ ap (λ (k : ℕ). section_speed book k f (get_or (sections_of orders) i no_order)) z ∙ none_none (get_or (sections_of orders) i no_order);
        alone = λ i h e. byte i h ∙ sections.alone_same book f sound n (get_or (sections_of orders) i no_order) e;
        long = omega (arith, length-append (speeds_for f orders) (drop (length (speeds_for f orders)) before), length-drop (length (speeds_for f orders)) before, speeds_long f orders, room);
        beyond = ap (λ (k : ℕ). drop k after) (sym long) ∙ drop_at (speeds_for f orders) (drop (length (speeds_for f orders)) before) (length (speeds_for f orders)) refl ∙ ap (λ (k : ℕ). drop k before) long;
      }

-- of a call that is done
pub shows_done : (answer : Result ⊤ Refusal) (f : Facts) (orders before : List ℕ) → answer ≡ Ok tt → all (good_section (asked_in orders) (book_named_in orders)) (records_of orders) ≡ true → record_count orders ≤ length before
    → Shows f (sections_of orders) (result_unwrap_or (route_by answer (granted_for f orders)) 0) before (written answer (speeds_for f orders) before)
shows_done answer f orders before e good room =
    subst (λ (a : Result ⊤ Refusal). Shows f (sections_of orders) (result_unwrap_or (route_by a (granted_for f orders)) 0) before (written a (speeds_for f orders) before)) (sym e) (shows_over f orders before good room)
