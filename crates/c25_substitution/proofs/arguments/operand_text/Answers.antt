use Rattle.std.proofs.Common.{List, ℕ, subst, ap, ◌∙◌, length, ◌≤◌}
use Rattle.c25_meaning_language.specs.Line.{past_field}
use Rattle.c25_text.proofs.Cuts.{field_cut}
use Rattle.c25_substitution.proofs.arguments.operand_text.Goals as goal

pub range_from-behind-requires : goal.range_from-behind-requires
range_from-behind-requires c = λ _.
    let start = c.past_blanks-word_start.result in
    let short = subst (λ (t : List ℕ). start ≤ length t) c.as_bytes-bytes.ensures.value c.past_blanks-word_start.ensures.bound in
    field_cut start c.args.line.now c.past_field-word_end.result short (c.past_field-word_end.ensures.value ∙ ap (past_field start) c.as_bytes-bytes.ensures.value)
