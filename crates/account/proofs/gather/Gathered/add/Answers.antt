-- `account::gather::Gathered::add` meets its contract. Assumes nothing.
use Prim.Native.Nat.{ℕ, ◌+◌, max}
use mir.Val.{bool_byte}
use borrow.Author.Rules.{rules}
use mathlib.Core.Path.{◌≡◌, refl, sym, ap, ap₂, ◌∙◌}
use mathlib.Core.Bool.{Bool, true, false, not, ◌&&◌, ◌||◌, cond}
use mathlib.Core.List.{[], ◌∷◌}
use lib.ListN.{set}
use Rattle.record.specs.Vehicles.{setting_number, is_wagon, is_hauled_engine, is_isolated, is_m}
use Rattle.record.specs.declared.vehicle.Setting.{Setting}
use Rattle.record.specs.declared.vehicle.Setting.TheVariants.{Isolated, M, V, R}
use Rattle.account.specs.Gathering.{sums_with, sums_of, sums_at, with_one}
use Rattle.account.proofs.gather.Gathered.add.Goals as goal
use Rattle.account.proofs.gather.Gathered.add.Goals.{then-isolated, else-isolated, then-engine-set_to_m, else-engine-set_to_m, then-wagon-set_to_m, else-wagon-set_to_m}

-- a mark as a number, and a setting's
byte_is : (b : Bool) → bool_byte b ≡ cond b 1 0
byte_is true = refl
byte_is false = refl

as_number : (s : Setting)
    → denote.Enum.Enum.tag (denote.Struct.Field.rows [] ∷ denote.Struct.Field.rows [] ∷ denote.Struct.Field.rows [] ∷ denote.Struct.Field.rows [] ∷ []) (denote.Enum.Declared.intoss ([] ∷ [] ∷ [] ∷ [] ∷ []) (Rattle.record.specs.contracts.vehicle.Setting.as_values s)) ≡ setting_number s
as_number Isolated = refl
as_number M = refl
as_number V = refl
as_number R = refl

pub returns : goal.returns
unfolding with_one sums_of
returns c =
    let a = c.args.self.now in
    let v = c.args.v in
    let wagon : c.eq-wagon.result ≡ is_wagon v = search rules in
    let engine : c.eq-engine.result ≡ is_hauled_engine v = search rules in
    let isolated : c.eq-isolated.result ≡ is_isolated v = search rules in
    let set_to_m : c.eq-set_to_m.result ≡ is_m v = search rules in
    let trailing : c.if-isolated.trailing ≡ cond (is_isolated v) (a.trailing + 1) 0 =
    elim c.if-isolated.branch [
      | then-isolated w ↦ w.trailing-is ∙ ap (λ (b : Bool). cond b (a.trailing + 1) 0) (sym w.if-isolated.true ∙ isolated)
      | else-isolated w ↦ w.trailing-is ∙ ap (λ (b : Bool). cond b (a.trailing + 1) 0) (sym w.if-isolated.false ∙ isolated)
    ] in
    let enginemmass : c.if-engine-set_to_m.enginemmass ≡ cond (is_hauled_engine v && is_m v) v.mmass 0 =
    elim c.if-engine-set_to_m.branch [
      | then-engine-set_to_m w ↦ w.enginemmass-is ∙ ap (λ (b : Bool). cond b v.mmass 0) (sym w.if-engine-set_to_m.true ∙ ap₂ ◌&&◌ engine set_to_m)
      | else-engine-set_to_m w ↦ w.enginemmass-is ∙ ap (λ (b : Bool). cond b v.mmass 0) (sym w.if-engine-set_to_m.false ∙ ap₂ ◌&&◌ engine set_to_m)
    ] in
    let wagonvmass : c.if-wagon-set_to_m.wagonvmass ≡ cond (is_wagon v && is_m v) v.vmass 0 =
    elim c.if-wagon-set_to_m.branch [
      | then-wagon-set_to_m w ↦ w.wagonvmass-is ∙ ap (λ (b : Bool). cond b v.vmass 0) (sym w.if-wagon-set_to_m.true ∙ ap₂ ◌&&◌ wagon set_to_m)
      | else-wagon-set_to_m w ↦ w.wagonvmass-is ∙ ap (λ (b : Bool). cond b v.vmass 0) (sym w.if-wagon-set_to_m.false ∙ ap₂ ◌&&◌ wagon set_to_m)
    ] in
    λ i.
    record {
      by_setting = (ap (set a.by_setting _) c.add.ensures ∙ ap (λ (k : ℕ). set a.by_setting k (sums_with (sums_at a.by_setting k) v)) (as_number v.setting)) i;
      count = a.count + 1;
      mass = a.mass + v.mass;
      length = a.length + v.length;
      axles = a.axles + v.axles;
      engines = a.engines + (c.from.ensures ∙ ap bool_byte engine ∙ byte_is (is_hauled_engine v)) i;
      dloads = a.dloads + (c.from-2.ensures ∙ byte_is v.dload) i;
      joined = a.joined + (c.from-3.ensures ∙ byte_is v.joined) i;
      trailing = trailing i;
      longest = (c.max-self.ensures ∙ ap (max a.longest) trailing) i;
      rule18 = a.rule18 || (wagon i && v.matrossow && not (isolated i));
      slowest = c.min-self.ensures i;
      first = (c.set_at.ensures ∙ ap (set a.first a.count) (as_number v.setting)) i;
      enginemmass = a.enginemmass + enginemmass i;
      wagonvmass = a.wagonvmass + wagonvmass i;
      enginenotm = a.enginenotm || (engine i && not (set_to_m i));
    }
