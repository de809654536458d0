use Rattle.std.proofs.Common.{string_bytes}
use Rattle.c25_tasks.proofs.Texted.{tells_failed}
use Rattle.c25_tasks.proofs.image_texts.refused.Goals as goal

pub returns : goal.returns
returns g c =
    let report = c.report_failure.result in
    tells_failed (g.D.Disk.bytes_of c.args.disk.now) _ c.notes_under.result c.args.explain c.args.asked c.first_file.result c.args.failure report.ending (string_bytes report.note) c.without_definitions.ensures c.first_file.ensures c.notes_under.ensures c.report_failure.ensures
