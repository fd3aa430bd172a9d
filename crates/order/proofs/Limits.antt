-- Both order records at the ends of their ranges, and as written, so read: tables, and a proof each about the definitions. Assumes nothing.
use mathlib.Core.Path.{◌≡◌, refl}
use mathlib.Core.List.{map}
use Rattle.lists.specs.Words.{all}
use Rattle.lists.specs.Numbers.{little_endian}
use Rattle.order.specs.Orders.{good_order, order_of, order_read}
use Rattle.order.specs.Limits.{shared_cross_border, shared_domestic, expected_shared, of_cross_border, expected_cross_border, of_domestic, expected_domestic, written, says}

pub limits : (shared_cross_border ≡ expected_shared) × (of_cross_border ≡ expected_cross_border) × (shared_domestic ≡ expected_shared) × (of_domestic ≡ expected_domestic)
unfolding good_order all little_endian
limits = (refl, refl, refl, refl)

pub read_as_written : map order_read written ≡ says
unfolding order_read order_of little_endian
read_as_written = refl
