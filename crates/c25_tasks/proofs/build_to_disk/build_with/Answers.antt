use Rattle.std.proofs.Common.{[], ◌∷◌}
use Rattle.c25_options.specs.Task.{text_of, texts_of}
use Rattle.c25_tasks.specs.Reading.{read_by, sources_under}
use Rattle.c25_tasks.proofs.Answering.{builds, builds_none, does_build}
use Rattle.c25_tasks.proofs.Noted.{sources_seen}
use Rattle.c25_tasks.proofs.Quiet.{keeps, stays}
use Rattle.c25_tasks.proofs.build_to_disk.build_with.Goals as goal

pub returns-in-Ok : goal.returns-in-Ok
returns-in-Ok g c =
    let task = c.args.task.now in
    let opens = g.D.Disk.opens c.args.disk.now in
    let held = g.D.Disk.bytes_of c.args.disk.now in
    let read = read_by (texts_of task.sources.items) (text_of task.command ∷ []) task.reading opens held in
    does_build held opens task c.args.rom _ c.notes_under-notes.result _ _ _ _ (sources_seen _ _ _ task.sources.items task.reading c.deref.ensures.value c.deref-2.ensures.value c.deref-3.ensures.value) c.notes_under-notes.ensures
    (builds read c.notes_under-notes.result (sources_under task.sources.items task.reading) (text_of task.command) (text_of task.symbols) task.base.now c.args.rom c.program_or_report.result _ _ c.in-Ok.program _ _ c.in-Ok.is c.program_or_report.ensures
    (c.write_asked.ensures read))

pub returns-in-Err : goal.returns-in-Err
returns-in-Err g c =
    let task = c.args.task.now in
    let opens = g.D.Disk.opens c.args.disk.now in
    let held = g.D.Disk.bytes_of c.args.disk.now in
    let read = read_by (texts_of task.sources.items) (text_of task.command ∷ []) task.reading opens held in
    does_build held opens task c.args.rom _ c.notes_under-notes.result _ _ _ _ (sources_seen _ _ _ task.sources.items task.reading c.deref.ensures.value c.deref-2.ensures.value c.deref-3.ensures.value) c.notes_under-notes.ensures
    (builds_none read c.notes_under-notes.result (sources_under task.sources.items task.reading) (text_of task.command) (text_of task.symbols) task.base.now c.args.rom c.program_or_report.result _ _ c.in-Err.report c.in-Err.is c.program_or_report.ensures (stays _) (keeps _))
