-- Request One, "A sheet for the whole route", and Six: the theorems, over the definitions of specs/, of any rule book. Assumes nothing.
use Prim.Native.Nat.{ℕ, ◌≤◌, ◌<◌}
use native.Mathlib.Omega.{arith}
use mathlib.Core.Path.{◌≡◌, sym, ap, ◌∙◌}
use mathlib.Core.Bool.{true, false, ◌&&◌}
use mathlib.Core.List.{List, [], ◌∷◌, ◌++◌}
use mathlib.Core.Logic.{◌⊎◌, ⊎_elim}
use lib.ListN.{length, get_or, take, drop, replicate, length-map}
use lib.Seq.{take_all}
use Rattle.lists.specs.Words.{◌is◌, all, Every}
use Rattle.record.specs.Records.{record_count, records_of}
use Rattle.lists.proofs.Lists.{every_map, leading_behind}
use Rattle.record.proofs.Records.{length_records}
use Rattle.facts.specs.declared.Facts.{Facts}
use Rattle.record.specs.Ranges.{in_ranges}
use Rattle.order.specs.Orders.{cross_border_fields, good_order, order_of, no_order}
use Rattle.order.specs.declared.Book.TheVariants.{CrossBorder}
use Rattle.order.specs.declared.Book.{Book}
use Rattle.order.specs.declared.Order.{Order}
use Rattle.categories.specs.Categories.{speed_of, category_of}
use Rattle.categories.specs.declared.category.Category.{Category}
use Rattle.rules.specs.Books.{RuleBook, broken_by, Sound}
use Rattle.rules.specs.CrossBorder.{cross_border}
use Rattle.rules.specs.Withdrawn.{former_book, longer_than_all}
use Rattle.rules.specs.Grants.{best_of, granted_of, granted_number, granted_speed as speed_granted, MayBeGranted, Among}
use Rattle.rules.proofs.Demands as rules
use Rattle.rules.proofs.Demands.{category_among}
use Rattle.books.specs.Books.{book_of}
use Rattle.sections.specs.Routes.{asked_on, slowest_of, broken_on, granted_on, section_speed, speeds_on, Somewhere, MayBeGrantedOn, BreaksOn, OfferedOn}
use Rattle.sections.specs.Gathering.{offers_on}
use Rattle.sections.specs.Sections.{sections_of, asked_in, book_named_in, good_section, leading_good, laid_over}
use Rattle.sections.proofs.Asks as asks
use Rattle.sections.proofs.Gathers as gathers
use Rattle.sections.proofs.Places as places
use Rattle.sections.proofs.Speeds as speeds
use Rattle.sections.proofs.Routes as routes

-- ---- "Take up to 64 order records, one a section": as many sections as whole records
pub sections_count : (orders : List ℕ) → length (sections_of orders) ≡ record_count orders
sections_count = places.length_sections

module _ (orders : List ℕ) (good : all (good_section (asked_in orders) (book_named_in orders)) (records_of orders) ≡ true) where
  alike : Every (λ o. (o.asked ≡ asked_in orders) × (o.book ≡ book_named_in orders)) (sections_of orders)
  alike = asks.good_alike (asked_in orders) (book_named_in orders) (records_of orders) good

  -- ---- "all with the same asked category": where every section is good each asks for the first's
  pub all_ask_alike : Every (λ o. o.asked ≡ asked_in orders) (sections_of orders)
  all_ask_alike = every_map _ _ (λ o two. two.0) (sections_of orders) alike

  -- and names the first's book (request Six)
  pub all_name_alike : Every (λ o. o.book ≡ book_named_in orders) (sections_of orders)
  all_name_alike = every_map _ _ (λ o two. two.1) (sections_of orders) alike

module _ (b : RuleBook) (f : Facts) where
  -- ---- "no rule broken on any section"
  module _ (c : Category) (os : List Order) where
    -- 0 exactly when the category breaks no rule on any section
    pub unbroken_exactly :
        (broken_on b c f os ≡ 0 → Every (λ o. broken_by b c f o ≡ 0) os)
        × (Every (λ o. broken_by b c f o ≡ 0) os → broken_on b c f os ≡ 0)
    unbroken_exactly = (routes.unbroken_each b f os c, routes.each_unbroken b f os c)

    -- another number exactly when it breaks one on some section
    pub breaks_exactly :
        ((broken_on b c f os ≡ 0 → ⊥) → BreaksOn b f os c)
        × (BreaksOn b f os c → broken_on b c f os ≡ 0 → ⊥)
    breaks_exactly = (routes.breaks_somewhere b f os c, routes.somewhere_breaks b f os c)

    -- one of the two holds
    pub unbroken_or_breaks : Every (λ o. broken_by b c f o ≡ 0) os ⊎ BreaksOn b f os c
    unbroken_or_breaks = routes.unbroken_or_breaks b f os c

  -- the one granted is the asked or a greater one that breaks no rule on any section, at its slowest section's speed
  pub granted_stands : Sound b → (os : List Order) → 0 < granted_number (granted_on b f os) → OfferedOn b f os (granted_number (granted_on b f os)) (speed_granted (granted_on b f os))
  granted_stands sound os p = routes.offered_may b f os (granted_number (granted_on b f os)) (speed_granted (granted_on b f os)) ((routes.is_granted b f os sound.rising).one p)

  -- ---- "the greatest of the slowest-section speeds, lowest number at a tie"
  -- on no section is a category slower than on its slowest
  pub slowest_each : (c : Category) (os : List Order) → Every (λ o. slowest_of c f os ≤ speed_of c f o) os
  slowest_each c os = speeds.slowest_each c f os

  -- and that is a section's own speed
  pub slowest_one : (c : Category) (o : Order) (os : List Order) → Somewhere (λ x. slowest_of c f (o ∷ os) ≡ speed_of c f x) (o ∷ os)
  slowest_one c o os = speeds.slowest_one c f o os

  module _ (sound : Sound b) (os : List Order) where
    -- the speed granted is the granted category's on its slowest section
    pub granted_speed : 0 < granted_number (granted_on b f os) → speed_granted (granted_on b f os) ≡ slowest_of (category_of (granted_number (granted_on b f os)) b.rows) f os
    granted_speed p =
        let x = granted_stands sound os p in
        let own = ap (λ (n : ℕ). category_of n b.rows) x.number ∙ category_among b.rows x.category sound.rising x.among in
        x.speed ∙ ap (λ (c : Category). slowest_of c f os) (sym own)

    -- none that may be granted is faster
    pub granted_is_fastest : (c : Category) → Among c b.rows → MayBeGrantedOn b f os c → slowest_of c f os ≤ speed_granted (granted_on b f os)
    granted_is_fastest c a m = (routes.is_granted b f os sound.rising).fastest c.number (slowest_of c f os) (routes.may_offered b f os c a m)

    -- and none as fast has a lower number
    pub lowest_at_a_tie : (c : Category) → Among c b.rows → MayBeGrantedOn b f os c → slowest_of c f os ≡ speed_granted (granted_on b f os) → granted_number (granted_on b f os) ≤ c.number
    lowest_at_a_tie c a m e = (routes.is_granted b f os sound.rising).lowest c.number (slowest_of c f os) (routes.may_offered b f os c a m) e

  -- ---- "For each section write one byte, its speed in that category"
  pub one_byte_a_section : (n : ℕ) (os : List Order) → length (speeds_on b n f os) ≡ length os
  one_byte_a_section n os = length-map os _

  -- a section's byte stands at its place
  pub section_byte : (n : ℕ) (os : List Order) (i : ℕ) → i < length os → get_or (speeds_on b n f os) i 0 ≡ section_speed b n f (get_or os i no_order)
  section_byte = speeds.section_byte b f

  module _ (sound : Sound b) where
    -- and is the speed on the section's own sheet, where the section alone grants the same
    pub alone_same : (n : ℕ) (o : Order) → granted_number (granted_of b f o) ≡ n → section_speed b n f o ≡ speed_granted (granted_of b f o)
    alone_same n o = speeds.alone_same b f sound.rising o (rules.no_speed_lem b f o sound) (rules.granted_stands b f o sound) n

    -- "or 0 when none is granted"
    pub no_category_no_speed : (os : List Order) → speeds_on b 0 f os ≡ replicate (length os) 0
    no_category_no_speed = speeds.no_speeds b f sound.rising

-- ---- "and no byte beyond the last section's": behind them stands what was lent
pub laid_room : (bytes lent : List ℕ) → length bytes ≤ length lent → laid_over bytes lent ≡ bytes ++ drop (length bytes) lent
unfolding laid_over
laid_room bytes lent h = ap (λ (xs : List ℕ). xs ++ drop (length bytes) lent) (take_all (length lent) bytes h)

module _ (b : RuleBook) (f : Facts) where
  -- ---- "Demand 2 reads over every section"
  -- a category may be granted on the route exactly when it may be on each section, where all ask alike
  pub may_on_each : (c : Category) (os : List Order) → Every (λ o. o.asked ≡ asked_on os) os
      → (MayBeGrantedOn b f os c → Every (λ o. MayBeGranted b f o c) os)
      × (Every (λ o. MayBeGranted b f o c) os → MayBeGrantedOn b f os c)
  may_on_each c os alike = (routes.may_each b f c os alike, routes.each_may b f c os)

  module _ (sound : Sound b) (os : List Order) where
    -- none is granted exactly when every category from the asked on breaks a rule on some section
    pub none_granted : granted_number (granted_on b f os) ≡ 0 → (c : Category) → Among c b.rows → asked_on os ≤ c.number → BreaksOn b f os c
    none_granted e c a h =
        ⊎_elim (λ m. absurd ((routes.is_granted b f os sound.rising).none e c.number (slowest_of c f os) (routes.may_offered b f os c a m))) (λ some. some) (routes.may_or_breaks b f os c h)

    pub all_broken : ((c : Category) → Among c b.rows → asked_on os ≤ c.number → BreaksOn b f os c) → granted_number (granted_on b f os) ≡ 0
    all_broken h =
        rules.none_exactly (asked_on os) _ (granted_on b f os) (routes.is_granted b f os sound.rising).one
        (λ n s w.
        let x = routes.offered_may b f os n s w in
        routes.breaks_not_may b f os x.category (h x.category x.among x.may.asked) x.may)

  -- ---- "one section must give today's granted category and speed"
  pub one_section : (o : Order) → granted_on b f (o ∷ []) ≡ granted_of b f o
  one_section o = routes.one_section b f o

  pub one_section_speed : Sound b → (o : Order) → speeds_on b (granted_number (granted_on b f (o ∷ []))) f (o ∷ []) ≡ speed_granted (granted_of b f o) ∷ []
  one_section_speed sound o =
      ap (λ (s : ℕ). s ∷ []) (alone_same b f sound (granted_number (granted_on b f (o ∷ []))) o (sym (ap granted_number (one_section o))))

-- ---- "4 … for the first section with a field out of range or an asked category other than the first section's, with that section, counted from 0, as place", or "with another book than the first" (request Six)
pub first_bad_section : (orders : List ℕ) (i : ℕ) → i < record_count orders → all (good_section (asked_in orders) (book_named_in orders)) (take i (records_of orders)) ≡ true
    → good_section (asked_in orders) (book_named_in orders) (get_or (records_of orders) i []) ≡ false → leading_good orders ≡ i
first_bad_section orders i h = leading_behind (good_section (asked_in orders) (book_named_in orders)) (records_of orders) i [] (omega (arith, h, length_records (record_count orders) orders))

-- the first asks as the first does, by its book: it is good exactly when its fields are
pub first_asks_itself : (orders : List ℕ) → good_section (asked_in orders) (book_named_in orders) (get_or (records_of orders) 0 []) ≡ good_order (get_or (records_of orders) 0 [])
first_asks_itself orders = asks.first_itself (records_of orders)

-- where the first names the cross-border book, a section is good by the cross-border table and the asked category alone
pub cross_section_kept : (asked : ℕ) (r : List ℕ) → good_section asked CrossBorder r ≡ (in_ranges cross_border_fields r && (order_of r).asked is asked)
cross_section_kept = asks.cross_kept

-- ---- how it is worked out
-- what is granted is the best of what is worked out to be offered
pub granted_of_offers : (b : Book) (f : Facts) (os : List Order) → best_of (asked_on os) (offers_on (book_of b) f os) ≡ granted_on (book_of b) f os
granted_of_offers = gathers.granted_by

-- ---- rule 46, withdrawn by request Five
-- no route is granted another category than by the former list, save where more than 700 m are said to be set to V in a hauled part of at most 700 m
pub granted_kept : (f : Facts) → longer_than_all f ≡ false → (os : List Order) → granted_on former_book f os ≡ granted_on cross_border f os
granted_kept = routes.granted_kept
