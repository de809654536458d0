use Rattle.std.proofs.Common.{◌&&◌, string_bytes}
use Rattle.c25_tasks.proofs.Quiet.{stays}
use Rattle.c25_tasks.proofs.RunCounts.{counts_short, counts_there, counts_written}
use Rattle.c25_tasks.specs.Counting.{AreCountsFrom, is_counted, is_run}
use Rattle.c25_tasks.proofs.counting.write_counts.Goals as goal

pub returns-in-Ok : goal.returns-in-Ok
returns-in-Ok g c = λ held sources steps files from.
    let report = c.args.run.report in
    counts_written (is_counted c.args.results && is_run report.ending) c.args.notes c.args.results report.ending (string_bytes report.note) _ _ _ held sources steps files
    c.writes_counts.result c.in-Ok.outputs.items c.as_slice.result.now c.in-Some.counts c.writes_counts.ensures c.if-not-writes_counts.false c.in-Ok.ensures c.as_slice.ensures.value
    (counts_there c.args.run.counts c.in-Some.counts (λ counts. AreCountsFrom held sources steps files (string_bytes counts.lcov) (string_bytes counts.list)) c.in-Some.is from) (c.write_after.ensures held)

pub returns-in-Err : goal.returns-in-Err
returns-in-Err g c = λ held sources steps files from.
    let report = c.args.run.report in
    counts_short (is_counted c.args.results && is_run report.ending) c.args.notes c.args.results report.ending (string_bytes report.note) _ _ _ held sources steps files
    c.writes_counts.result c.writes_counts.ensures c.if-not-writes_counts.false (c.in-Err.error, c.without_note.ensures.ending) c.without_note.ensures.note (stays _)
