use Rattle.std.proofs.Common.{ap, ◌∙◌, arith}
use Rattle.std.proofs.lemmas.Str.{IsCharBoundary-start}
use Rattle.c25_meaning_language.specs.Line.{past_blanks}
use Rattle.c25_text.proofs.Cuts.{blank_cut}
use Rattle.c25_substitution.proofs.strings.trimmed_start.Goals as goal

pub range_from-requires : goal.range_from-requires
range_from-requires c = λ _.
    blank_cut 0 c.args.text.now c.past_blanks.result c.utf8.text (omega arith) (IsCharBoundary-start c.args.text.now c.utf8.text) (c.past_blanks.ensures.value ∙ ap (past_blanks 0) c.as_bytes.ensures.value)
