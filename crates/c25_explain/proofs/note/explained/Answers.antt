use Rattle.std.proofs.Common.{◌∙◌}
use Rattle.c25_explain.proofs.NoteTexts.{explains}
use Rattle.c25_explain.proofs.note.explained.Goals as goal

pub returns : goal.returns
returns c =
    explains c.args.fault c.explanation_of-explanation.result c.args.shown c.args.after.now c.as_str.result.now c.as_str-2.result.now c.as_str-3.result.now c.note_with.result
    c.explanation_of-explanation.ensures (c.as_str.ensures.value ∙ c.in_ok-shown.ensures) (c.as_str-2.ensures.value ∙ c.in_ok-lesson.ensures)
    (c.as_str-3.ensures.value ∙ c.in_ok-example.ensures) c.note_with.ensures
