-- Demand 2: what stands in a sheet, by the facts of the train and the order, with the book that it names.
use Rattle.std.specs.Prelude.{ℕ, ◌+◌, ◌≤◌, ◌<◌, ◌≡◌, false, List, map, pos, length, get_or, take, drop}
use Rattle.std.specs.Int.Signed.{lt_z}
use Rattle.lists.specs.Words.{Every}
use Rattle.margin.specs.Margin.{tonnes_of, signed_of}
use Rattle.order.specs.declared.Order.{Order}
use Rattle.facts.specs.declared.Facts.{Facts}
use Rattle.categories.specs.Categories.{speed_of}
use Rattle.categories.specs.Brakes.{margin_for}
use Rattle.categories.specs.declared.category.Category.{Category}
use Rattle.rules.specs.Rules.{first_broken, is_short}
use Rattle.rules.specs.Books.{RuleBook, rules_of}
use Rattle.rules.specs.Grants.{granted_of, granted_number, granted_speed, MayBeGranted, Among, Offered}
use Rattle.books.specs.Books.{book_of}
use Rattle.sheets.specs.Sheets.{margin_at, asked_of}

-- the book that an order names
abbrev pub book_by : Order → RuleBook
book_by o = book_of o.book

-- the byte of a category: from byte 4 on, in the order of their numbers
abbrev pub byte_of : Category → List ℕ → ℕ
byte_of c sheet = get_or sheet (3 + c.number) 0

pub record Shows (f : Facts) (o : Order) (sheet : List ℕ) : Type 0 where
  -- byte 3 the first common rule broken, from byte 4 on the first rule that each category breaks, or 0
  pub common : get_or sheet 3 0 ≡ first_broken ((book_by o).common f)
  pub rules : take (length (book_by o).rows) (drop 4 sheet) ≡ map (λ c. first_broken (rules_of (book_by o) c f o)) (book_by o).rows
  -- a category's byte is 0 exactly when no rule of its list is broken
  pub zero : (c : Category) → Among c (book_by o).rows → byte_of c sheet ≡ 0 → Every (λ r. r.applies ≡ false) (rules_of (book_by o) c f o)
  pub unbroken : (c : Category) → Among c (book_by o).rows → Every (λ r. r.applies ≡ false) (rules_of (book_by o) c f o) → byte_of c sheet ≡ 0
  -- bytes 1 and 2 the category granted and its speed, or 0 and 0
  pub granted : get_or sheet 1 0 ≡ granted_number (granted_of (book_by o) f o)
  pub speed : get_or sheet 2 0 ≡ granted_speed (granted_of (book_by o) f o)
  -- none is granted exactly when every category from the asked on breaks a rule, and then at no speed
  pub none : get_or sheet 1 0 ≡ 0 → (c : Category) → Among c (book_by o).rows → o.asked ≤ c.number → byte_of c sheet ≡ 0 → ⊥
  pub broken : ((c : Category) → Among c (book_by o).rows → o.asked ≤ c.number → byte_of c sheet ≡ 0 → ⊥) → get_or sheet 1 0 ≡ 0
  pub no_speed : get_or sheet 1 0 ≡ 0 → get_or sheet 2 0 ≡ 0
  -- the one granted is one of the table, the asked or a greater one, that breaks no rule, at its own speed
  pub stands : 0 < get_or sheet 1 0 → Offered (book_by o) f o (get_or sheet 1 0) (get_or sheet 2 0)
  -- none that may be granted is faster, and none as fast has a lower number
  pub fastest : (c : Category) → Among c (book_by o).rows → MayBeGranted (book_by o) f o c → speed_of c f o ≤ get_or sheet 2 0
  pub lowest : (c : Category) → Among c (book_by o).rows → MayBeGranted (book_by o) f o c → speed_of c f o ≡ get_or sheet 2 0 → get_or sheet 1 0 ≤ c.number
  -- bytes 10 to 12, of a domestic sheet 11 to 13, read with their sign: the asked category's margin in whole tonnes, below zero exactly when it breaks 47, 77 or 88
  pub margin : signed_of (take 3 (drop (margin_at o.book) sheet)) ≡ tonnes_of (margin_for (asked_of (book_by o) o) f o)
  pub sign : lt_z (signed_of (take 3 (drop (margin_at o.book) sheet))) (pos 0) ≡ is_short (asked_of (book_by o) o) f o
