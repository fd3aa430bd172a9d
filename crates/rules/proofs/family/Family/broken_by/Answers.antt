-- `rules::family::Family::broken_by` meets its contract: its four parts are those of the whole list. Assumes nothing.
use Rattle.categories.specs.Brakes.{margin_for}
use Rattle.rules.proofs.Rules.{broken_there}
use Rattle.rules.proofs.family.Family.broken_by.Goals as goal

pub returns : goal.returns
unfolding margin_for
returns c =
    let m = c.args.self.now in
    rw (c.unwrap_or.ensures, c.or-3.ensures, c.or-2.ensures, c.or.ensures, c.then_some.ensures, c.then_some-2.ensures, c.is_short-short.ensures, m.common_is, m.own_is, m.brakes_are, c.requires.line_value, ← c.requires.alike.0, ← c.requires.alike.1)
    (broken_there c.args.c m.facts m.order)
