use Rattle.std.proofs.Common.{string_bytes}
use Rattle.c25_tasks.proofs.Answered.{leaves_ready, tells_ready}
use Rattle.c25_tasks.proofs.report.report_run.Goals as goal

pub returns-in-Ok-clause-told : goal.returns-in-Ok-clause-told
returns-in-Ok-clause-told g c =
    tells_ready (g.D.Disk.bytes_of c.args.disk.now) c.args.options.notes c.args.options.steps c.args.options.details c.args.answer c.in-Ok.ready c.print_run.result.report.ending (string_bytes c.print_run.result.report.note)
    (g.O.Write.contents c.args.out.now, g.O.Write.contents c.print_run.new.out) c.in-Ok.is c.print_run.ensures.run c.print_run.ensures.statements c.print_run.ensures.answer

pub returns-in-Ok-clause-left : goal.returns-in-Ok-clause-left
returns-in-Ok-clause-left g c = leaves_ready c.args.options.steps c.args.answer c.in-Ok.ready c.print_run.result.left c.in-Ok.is c.print_run.ensures.left
