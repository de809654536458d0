use Rattle.std.proofs.Common.{◌∷◌}
use Rattle.c25_options.specs.Task.{text_of}
use Rattle.c25_tasks.specs.Reading.{run_files}
use Rattle.c25_tasks.proofs.Noted.{read_seen, sources_seen}
use Rattle.c25_tasks.proofs.Tasks.{does_debug}
use Rattle.c25_tasks.proofs.debugging.debug.Goals as goal

pub returns : goal.returns
returns g c =
    let task = c.args.task.now in
    let opens = g.D.Disk.opens c.args.disk.now in
    let held = g.D.Disk.bytes_of c.args.disk.now in
    let sources = sources_seen _ _ _ task.sources.items task.reading c.deref.ensures.value c.deref-2.ensures.value c.deref-3.ensures.value in
    let read = read_seen _ task.sources.items _ (text_of task.script ∷ run_files task.files) task.reading opens held c.deref.ensures.value c.deref-3.ensures.value in
    does_debug held opens _ _ c.source_notes.result _ _ _ _ task sources read c.source_notes.ensures c.debug_asked.ensures
