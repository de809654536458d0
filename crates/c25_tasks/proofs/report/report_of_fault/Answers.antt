use Rattle.std.proofs.Common.{string_bytes}
use Rattle.c25_tasks.proofs.Noted.{reports_line}
use Rattle.c25_tasks.proofs.report.report_of_fault.Goals as goal

pub returns-in-Ok : goal.returns-in-Ok
returns-in-Ok g c =
    reports_line (g.D.Disk.refuses c.args.disk.now) (g.D.Disk.bytes_of c.args.disk.now) c.args.notes c.args.fault c.in-Fault.refusal c.in-Ok.line (string_bytes c.note_of_sources-note.result)
    c.in-Fault.is c.in-Ok.ensures c.note_of_sources-note.ensures
