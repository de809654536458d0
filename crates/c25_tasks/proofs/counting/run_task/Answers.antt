use Rattle.std.proofs.Common.{string_bytes}
use Rattle.std.specs.Prelude.{IfSome}
use Rattle.c25_options.specs.Task.{texts_of}
use Rattle.c25_tasks.specs.Counting.{AreCountsFrom}
use Rattle.c25_tasks.specs.Reading.{read_by, run_files, sources_under}
use Rattle.c25_tasks.specs.Running.{RunsTold, details_of}
use Rattle.c25_tasks.proofs.Noted.{read_seen, sources_seen}
use Rattle.c25_tasks.proofs.RunCounts.{seen}
use Rattle.c25_tasks.proofs.counting.run_task.Goals as goal

pub returns-then-is_counted-clause-told : goal.returns-then-is_counted-clause-told
returns-then-is_counted-clause-told g c =
    let task = c.args.task.now in
    let opens = g.D.Disk.opens c.args.disk.now in
    let held = g.D.Disk.bytes_of c.args.disk.now in
    let sources = sources_seen _ _ _ task.sources.items task.reading c.deref.ensures.value c.deref-2.ensures.value c.deref-3.ensures.value in
    let read = read_seen _ task.sources.items _ (run_files task.files) task.reading opens held c.deref.ensures.value c.deref-3.ensures.value in
    let report = c.run_counted.result.report in
    seen (λ h s. RunsTold h c.args.notes s task.steps (details_of task.results) task.files report.ending (string_bytes report.note) (g.O.Write.contents c.args.out.now, g.O.Write.contents c.run_counted.new.out))
    _ (sources_under task.sources.items task.reading) _ (read_by (texts_of task.sources.items) (run_files task.files) task.reading opens held) sources read c.run_counted.ensures.told

pub returns-then-is_counted-clause-counts : goal.returns-then-is_counted-clause-counts
returns-then-is_counted-clause-counts g c =
    let task = c.args.task.now in
    let opens = g.D.Disk.opens c.args.disk.now in
    let held = g.D.Disk.bytes_of c.args.disk.now in
    let sources = sources_seen _ _ _ task.sources.items task.reading c.deref.ensures.value c.deref-2.ensures.value c.deref-3.ensures.value in
    let read = read_seen _ task.sources.items _ (run_files task.files) task.reading opens held c.deref.ensures.value c.deref-3.ensures.value in
    seen (λ h s. IfSome c.run_counted.result.counts (λ counts. AreCountsFrom h s task.steps task.files (string_bytes counts.lcov) (string_bytes counts.list)))
    _ (sources_under task.sources.items task.reading) _ (read_by (texts_of task.sources.items) (run_files task.files) task.reading opens held) sources read c.run_counted.ensures.counts

pub returns-clause-told : goal.returns-clause-told
returns-clause-told g c =
    let task = c.args.task.now in
    let opens = g.D.Disk.opens c.args.disk.now in
    let held = g.D.Disk.bytes_of c.args.disk.now in
    let sources = sources_seen _ _ _ task.sources.items task.reading c.deref.ensures.value c.deref-2.ensures.value c.deref-3.ensures.value in
    let read = read_seen _ task.sources.items _ (run_files task.files) task.reading opens held c.deref.ensures.value c.deref-3.ensures.value in
    let report = c.run_sources-report.result in
    seen (λ h s. RunsTold h c.args.notes s task.steps (details_of task.results) task.files report.ending (string_bytes report.note) (g.O.Write.contents c.args.out.now, g.O.Write.contents c.run_sources-report.new.out))
    _ (sources_under task.sources.items task.reading) _ (read_by (texts_of task.sources.items) (run_files task.files) task.reading opens held) sources read c.run_sources-report.ensures
