-- `travel::account_in` meets its contract, figure by figure. Assumes nothing.
use mathlib.Core.List.{[], ◌∷◌}
use Rattle.travel.specs.AccountRecords.{account_in}
use Rattle.travel.proofs.account_in.Goals as goal

pub returns : goal.returns
unfolding account_in
returns c =
    let bs = c.args.bytes.now in
    λ i.
    record {
      count = c.figure.ensures i;
      mass = c.figure-2.ensures i;
      vmass = c.figure-3.ensures i;
      mmass = c.figure-4.ensures i;
      length = c.figure-5.ensures i;
      axles = c.figure-6.ensures i;
      vaxles = c.figure-7.ensures i;
      engines = c.figure-8.ensures i;
      mset = c.figure-9.ensures i;
      isolated = c.figure-10.ensures i;
      dloads = c.figure-11.ensures i;
      leading = c.figure-12.ensures i;
      trailing = c.figure-13.ensures i;
      longest = c.figure-14.ensures i;
      behind = (account_in bs).behind;
      rule16 = (account_in bs).rule16;
      rule17 = (account_in bs).rule17;
      rule18 = (account_in bs).rule18;
      slowest = c.figure-15.ensures i;
      first = c.from.ensures i ∷ c.from-2.ensures i ∷ c.from-3.ensures i ∷ c.from-4.ensures i ∷ c.from-5.ensures i ∷ [];
      vlength = c.figure-16.ensures i;
      enginemmass = c.figure-17.ensures i;
      wagonvmass = c.figure-18.ensures i;
      enginenotm = (account_in bs).enginenotm;
    }
