use Rattle.std.proofs.Common.{inr, sym, ◌∙◌, string_bytes}
use Rattle.c25_tasks.specs.Images.{made_files}
use Rattle.c25_tasks.proofs.Quiet.{keeps, stays}
use Rattle.c25_tasks.proofs.Written.{not_printed, printed, writes_texts}
use Rattle.c25_tasks.proofs.images.write_made.Goals as goal

pub returns-in-Err : goal.returns-in-Err
returns-in-Err g c = λ held. inr (inr ((_, c.without_note.ensures.ending), c.without_note.ensures.note, stays _), keeps _)

pub returns-then-is_done : goal.returns-then-is_done
returns-then-is_done g c = λ held.
    let made = c.args.made in
    let names = c.args.writing.names.now in
    let files = made_files (string_bytes names.source) (string_bytes names.command) made.source in
    let writes = writes_texts held c.args.writing.notes files _ _ _ c.in-Ok.outputs.items _ c.in-Ok.ensures c.as_slice.ensures.value (c.write_files-report.ensures held) in
    printed held c.args.writing.notes files (string_bytes made.told) _ _ _ _ _ _ _ _ writes (sym c.is_done.ensures ∙ c.if-is_done.true) c.as_str.ensures.value c.print_answers.ensures c.without_note-then-is_done.ensures.ending c.without_note-then-is_done.ensures.note

pub returns : goal.returns
returns g c = λ held.
    let made = c.args.made in
    let names = c.args.writing.names.now in
    let files = made_files (string_bytes names.source) (string_bytes names.command) made.source in
    let writes = writes_texts held c.args.writing.notes files _ _ _ c.in-Ok.outputs.items _ c.in-Ok.ensures c.as_slice.ensures.value (c.write_files-report.ensures held) in
    not_printed held c.args.writing.notes files (string_bytes made.told) _ _ _ _ writes (sym c.is_done.ensures ∙ c.if-is_done.false) (keeps _)
