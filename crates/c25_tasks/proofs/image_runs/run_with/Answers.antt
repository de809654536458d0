use Rattle.std.proofs.Common.{None, [], map, string_bytes, subst}
use Rattle.c25_fronts.specs.Fronts.{entry_of, fronted, with_fronts}
use Rattle.c25_inputs.specs.Files.{SourceNames}
use Rattle.c25_options.specs.Task.{texts_of}
use Rattle.c25_source_notes.specs.Notes.{AreSourceNotes}
use Rattle.c25_tasks.proofs.Noted.{sources_seen}
use Rattle.c25_tasks.specs.Reading.{read_by, run_files, sources_under}
use Rattle.c25_tasks.proofs.image_runs.run_with.Goals as goal

pub returns : goal.returns
returns g c =
    let task = c.args.task.now in
    let files = map entry_of c.args.fronts.now in
    let held = fronted files (g.D.Disk.bytes_of c.args.disk.now) in
    let opens = with_fronts files (g.D.Disk.opens c.args.disk.now) in
    let sources = sources_seen _ _ _ task.sources.items task.reading c.deref.ensures.value c.deref-2.ensures.value c.deref-3.ensures.value in
    let notes = c.source_notes-notes.result in
    let report = c.run_task-run.result.report in (
      notes,
      subst (λ (s : SourceNames). AreSourceNotes task.faults task.files None s [] notes) sources c.source_notes-notes.ensures,
      (
        report.ending,
        string_bytes report.note,
        c.run_task-run.ensures.told,
        c.write_counts.ensures (read_by (texts_of task.sources.items) (run_files task.files) task.reading opens held) (sources_under task.sources.items task.reading) task.steps task.files c.run_task-run.ensures.counts,
      ),
    )
