use Rattle.std.specs.Prelude.{Err, Ok}
use Rattle.c25_tasks.proofs.Quiet.{keeps, stays}
use Rattle.c25_tasks.proofs.program.report_of_words.Goals as goal

pub returns-in-Ok : goal.returns-in-Ok
returns-in-Ok g c = (Ok c.in-Ok.task, c.in-Ok.ensures, c.do_asked_task.ensures)

pub returns : goal.returns
returns g c = (Err c.in-Err.fault, c.in-Err.ensures, (c.report_without_task.ensures.ending, c.report_without_task.ensures.tip, (keeps _, stays _)))
