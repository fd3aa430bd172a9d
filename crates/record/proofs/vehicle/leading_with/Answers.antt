-- `record::vehicle::leading_with` meets its contract: the records from the first on that have the byte. Assumes nothing.
use mathlib.Core.Path.{ap, refl, ◌∙◌}
use Rattle.std.proofs.Common.{rules, tests}
use Rattle.std.proofs.lemmas.Iterator.{YieldsList-from_slice}
use Rattle.std.proofs.lemmas.Iterator.Consumers.{count_from_yields_List}
use Rattle.std.proofs.lemmas.Iterator.Search.{YieldsList-from_take_while}
use Rattle.std.proofs.lemmas.List.Folds.{length-prefix_len}
use Rattle.lists.specs.Words.{leading}
use Rattle.lists.proofs.Lists.{leading_prefix}
use Rattle.record.specs.Records.{record_count, has_byte}
use Rattle.record.proofs.Records.{chunks_records}
use Rattle.record.proofs.vehicle.leading_with.Goals as goal

pub returns : goal.returns
returns c =
    let bs = c.args.records.now in
    let test = has_byte c.args.at c.args.x in
    let chunks = c.as_chunks.result.0.now in
    count_from_yields_List c.take_while.result _ c.count.ensures.ran
    (YieldsList-from_take_while _ (has_byte c.args.at c.args.x) (YieldsList-from_slice c.as_chunks.result.0.now cc) c.take_while.ensures.closure c.take_while.ensures.done (λ x b q k. search (rules, tests)))
    ∙ length-prefix_len (has_byte c.args.at c.args.x) c.as_chunks.result.0.now
    ∙ leading_prefix (has_byte c.args.at c.args.x) (has_byte c.args.at c.args.x) (λ r. refl) c.as_chunks.result.0.now
    ∙ ap (leading (has_byte c.args.at c.args.x)) (c.as_chunks.ensures.front ∙ chunks_records (record_count bs) bs)
