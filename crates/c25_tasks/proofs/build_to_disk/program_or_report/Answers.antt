use Rattle.std.proofs.Common.{[], ◌∷◌}
use Rattle.c25_options.specs.Task.{text_of, texts_of}
use Rattle.c25_tasks.specs.Reading.{read_by, sources_under}
use Rattle.c25_tasks.proofs.Answering.{builds_or_reports}
use Rattle.c25_tasks.proofs.Noted.{read_seen, sources_seen}
use Rattle.c25_tasks.proofs.build_to_disk.program_or_report.Goals as goal

pub returns : goal.returns
returns g c =
    let task = c.args.task.now in
    let opens = g.D.Disk.opens c.args.disk.now in
    let held = g.D.Disk.bytes_of c.args.disk.now in
    builds_or_reports _ (read_by (texts_of task.sources.items) (text_of task.command ∷ []) task.reading opens held) c.args.notes _ (sources_under task.sources.items task.reading) (text_of task.command) (text_of task.symbols) c.program_of-answer.result c.answer_or_report.result
    (sources_seen _ _ _ task.sources.items task.reading c.deref.ensures.value c.deref-2.ensures.value c.deref-3.ensures.value) (read_seen _ task.sources.items _ (text_of task.command ∷ []) task.reading opens held c.deref.ensures.value c.deref-3.ensures.value) c.program_of-answer.ensures c.answer_or_report.ensures
