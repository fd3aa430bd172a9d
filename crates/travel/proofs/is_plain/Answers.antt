-- `travel::is_plain` meets its contract: its tests are the definition's. Assumes nothing.
use Rattle.std.proofs.Common.{rules, ◌≡◌, ◌&&◌, ap₂, ◌∙◌, arith}
use lib.ListN.{take, length-drop}
use lib.Seq.{take_all}
use mathlib.Core.Bool.{true}
use Rattle.std.specs.List.{fold, list_all}
use Rattle.std.proofs.lemmas.Iterator.{YieldsList-from_slice}
use Rattle.std.proofs.lemmas.Iterator.Search.{all_from_yields_List}
use Rattle.std.proofs.lemmas.Iterator.Consumers.{fold_from_yields_List}
use Rattle.lists.specs.Words.{◌is◌, ◌at_most◌}
use Rattle.travel.specs.AccountRecords.{marks_in, unused_in}
use Rattle.travel.proofs.AccountRecords.{all_folded, plain_long}
use Rattle.travel.proofs.is_plain.Goals as goal

pub returns : goal.returns
returns c =
    let bs = c.args.bytes.now in
    let marks : c.all.result ≡ list_all (λ m. m at_most 1) (marks_in bs) = all_from_yields_List (λ m. m at_most 1) _ _ c.all.result c.all.ensures.ran (YieldsList-from_slice (marks_in bs) cc) (λ x b q k. search rules) in
    let rest : take 46 (unused_in bs) ≡ unused_in bs = take_all 46 (unused_in bs) (simp length-drop (omega arith)) in
    let unused : c.fold.result ≡ fold (λ u b. u && b is 0) true (unused_in bs) = fold_from_yields_List _ (λ u b. u && b is 0) true c.fold.result c.fold.ensures.ran (YieldsList-from_slice (unused_in bs) (c.iter-2.ensures.rest ∙ rest)) (λ u x b q k. search rules) in
    ap₂ ◌&&◌ marks (unused ∙ all_folded (λ u. u is 0) (unused_in bs)) ∙ plain_long bs (omega arith)
