use Rattle.std.proofs.Common.{List, ℕ, subst, ap, ◌∙◌, arith, length, ◌≤◌}
use Rattle.c25_meaning_language.specs.Line.{past_field, past_blanks}
use Rattle.c25_text.proofs.Cuts.{field_cut, blank_cut}
use Rattle.c25_places.proofs.text_part.text_part.Goals as goal

pub range-requires-clause-end_boundary : goal.range-requires-clause-end_boundary
range-requires-clause-end_boundary c =
    field_cut 0 c.args.text.now c.past_field-label_end.result (omega arith)
    (c.past_field-label_end.ensures.value ∙ ap (past_field 0) c.as_bytes-bytes.ensures.value)

pub range-requires-else-is_err-clause-start_boundary : goal.range-requires-else-is_err-clause-start_boundary
range-requires-else-is_err-clause-start_boundary c = λ _.
    let label_end = c.past_field-label_end.result in
    let short = subst (λ (t : List ℕ). label_end ≤ length t) c.as_bytes-bytes.ensures.value c.past_field-label_end.ensures.bound in
    blank_cut label_end c.args.text.now c.past_blanks-word_start.result c.utf8.text short
    (field_cut 0 c.args.text.now label_end (omega arith) (c.past_field-label_end.ensures.value ∙ ap (past_field 0) c.as_bytes-bytes.ensures.value))
    (c.past_blanks-word_start.ensures.value ∙ ap (past_blanks label_end) c.as_bytes-bytes.ensures.value)

pub range-requires-else-is_err-clause-end_boundary : goal.range-requires-else-is_err-clause-end_boundary
range-requires-else-is_err-clause-end_boundary c =
    let word_start = c.past_blanks-word_start.result in
    let short = subst (λ (t : List ℕ). word_start ≤ length t) c.as_bytes-bytes.ensures.value c.past_blanks-word_start.ensures.bound in
    field_cut word_start c.args.text.now c.past_field-word_end.result short
    (c.past_field-word_end.ensures.value ∙ ap (past_field word_start) c.as_bytes-bytes.ensures.value)
