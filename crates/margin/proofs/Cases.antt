-- Document 01's cases A to D as far as the margin, a table and a proof each about the definitions. Assumes nothing.
use mathlib.Core.Path.{◌≡◌, refl}
use mathlib.Core.List.{map}
use Rattle.margin.specs.Margin.{fourfold, margin_of, tonnes_of, bytes_of}
use Rattle.margin.specs.Cases.{masses, masses_given, margins, margins_given, tonnes, bytes}

pub masses_counted : masses ≡ masses_given
unfolding fourfold
masses_counted = refl

pub cases : margins ≡ margins_given
unfolding fourfold margin_of
cases = refl

pub tonnes_and_bytes : (map tonnes_of margins_given ≡ tonnes) × (map bytes_of tonnes ≡ bytes)
tonnes_and_bytes = (refl, refl)
