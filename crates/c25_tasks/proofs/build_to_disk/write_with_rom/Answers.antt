use Rattle.std.proofs.Common.{sym, ◌∙◌, string_bytes}
use Rattle.c25_tasks.proofs.Quiet.{keeps}
use Rattle.c25_tasks.proofs.Written.{files_seen, not_printed, printed, texts_seen}
use Rattle.c25_tasks.proofs.build_to_disk.write_with_rom.Goals as goal

pub returns-then-is_done : goal.returns-then-is_done
returns-then-is_done g c = λ held.
    let made = c.args.made in
    let seen = files_seen c.args.writing.base.now c.texts_of.result made.program.built made.program.symbols _ made.rom.files.items c.texts_of.ensures c.as_slice.ensures.value in
    let writes = texts_seen held c.args.writing.notes _ _ _ _ _ seen (c.write_texts-report.ensures held) in
    printed held c.args.writing.notes _ (string_bytes made.rom.lines) _ _ _ _ _ _ _ _ writes (sym c.is_done.ensures ∙ c.if-is_done.true) c.as_str.ensures.value c.print_answers.ensures c.without_note.ensures.ending c.without_note.ensures.note

pub returns : goal.returns
returns g c = λ held.
    let made = c.args.made in
    let seen = files_seen c.args.writing.base.now c.texts_of.result made.program.built made.program.symbols _ made.rom.files.items c.texts_of.ensures c.as_slice.ensures.value in
    let writes = texts_seen held c.args.writing.notes _ _ _ _ _ seen (c.write_texts-report.ensures held) in
    not_printed held c.args.writing.notes _ (string_bytes made.rom.lines) _ _ _ _ writes (sym c.is_done.ensures ∙ c.if-is_done.false) (keeps _)
