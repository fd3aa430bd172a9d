-- `domestic::rule::still_terms` meets its contract. Assumes nothing.
use mathlib.Core.Path.{refl}
use Rattle.domestic.specs.Words.{still_of}
use Rattle.domestic.proofs.rule.still_terms.Goals as goal

pub returns : goal.returns
unfolding still_of
returns c = refl
