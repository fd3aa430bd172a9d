-- `domestic::rule::word_of` meets its contract: a fold from the last mark to the first. Assumes nothing.
use Prim.Native.Nat.{◌*◌, ◌^◌, ◌%◌}
use Rattle.std.specs.Prelude.{reverse, bit_or}
use Rattle.std.specs.Int.{from_bool}
use Rattle.std.specs.List.{fold}
use Rattle.std.proofs.Common.{rules, arith, ◌≡◌, ◌∙◌}
use Rattle.domestic.proofs.Words.{folded_word}
use Rattle.domestic.proofs.rule.word_of.Goals as goal

pub returns : goal.returns
returns c =
    let marks = c.args.marks.now in
    let folded : c.fold.result ≡ fold (λ word mark. bit_or (word * 2 ^ 1 % 2 ^ 32) (from_bool mark)) 0 (reverse marks) = search rules in
    folded ∙ folded_word marks (omega arith)
