use Rattle.std.proofs.Common.{refl}
use Rattle.std.specs.Prelude.{Some}
use Rattle.c25_options.specs.Task.{texts_of}
use Rattle.c25_tasks.proofs.Done.{does_unless}
use Rattle.c25_tasks.proofs.Noted.{misuse_reported}
use Rattle.c25_tasks.proofs.Quiet.{keeps, stays}
use Rattle.c25_tasks.specs.Program.{no_definition_line}
use Rattle.c25_tasks.proofs.definitions.do_asked_task.Goals as goal

pub returns-in-Some : goal.returns-in-Some
returns-in-Some g c =
    let found = Some c.in-Some.text in
    does_unless (g.D.Disk.bytes_of c.args.disk.now) (g.D.Disk.opens c.args.disk.now) _ c.args.task.now _ (texts_of c.definitions_of.result.now) found found c.definitions_of.ensures c.in-Some.ensures refl
    (misuse_reported (no_definition_line c.in-Some.text.now) _ c.without_note.result c.without_note.ensures.ending c.misuse.ensures, (keeps _, stays _, c.without_note.ensures.note))
