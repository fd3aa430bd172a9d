-- `speed::slowest` meets its contract. Assumes nothing.
use borrow.Author.Rules.{rules}
use Rattle.std.proofs.lemmas.Iterator.{YieldsList-from_slice}
use Rattle.std.proofs.lemmas.Iterator.Consumers.{YieldsList-from_chain}
use Rattle.speed.specs.Speed.{slower}
use Rattle.speed.proofs.Reduces.{reduced}
use Rattle.speed.proofs.slowest.Goals as goal

pub returns : goal.returns
returns c =
    reduced (λ y. y.now) _ slower _ (λ a x b q k. search rules) c.reduce.result c.reduce.ensures.ran
    (YieldsList-from_chain (YieldsList-from_slice c.args.front.now cc) (YieldsList-from_slice c.args.back.now cc) (cc) (cc))
