use Rattle.std.proofs.Common.{string_bytes}
use Rattle.c25_inputs.specs.Files.{source_names}
use Rattle.c25_tasks.proofs.Quiet.{keeps}
use Rattle.c25_tasks.proofs.ReadyCounts.{refusal_told}
use Rattle.c25_tasks.proofs.counting.run_counted.Goals as goal

pub returns-in-Err-clause-told : goal.returns-in-Err-clause-told
returns-in-Err-clause-told g c =
    let options = c.args.asked.options in
    let report = c.report_refused.result.report in
    refusal_told (g.D.Disk.bytes_of c.args.disk.now) options.notes (source_names c.args.asked.named.sources) options.steps options.details c.args.asked.named.files c.in-Err.fault report.ending (string_bytes report.note) _ c.in-Err.ensures
    c.report_refused.ensures.report (keeps _)
