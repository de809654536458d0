use Rattle.std.proofs.Common.{ap, ◌∙◌, arith}
use Rattle.c25_meaning_language.specs.Line.{past_field}
use Rattle.c25_text.proofs.Cuts.{field_cut}
use Rattle.c25_text.proofs.line.label_in.Goals as goal

pub range-requires-clause-end_boundary : goal.range-requires-clause-end_boundary
range-requires-clause-end_boundary c =
    field_cut 0 c.args.text.now c.past_field-end.result (omega arith)
    (c.past_field-end.ensures.value ∙ ap (past_field 0) c.as_bytes.ensures.value)
