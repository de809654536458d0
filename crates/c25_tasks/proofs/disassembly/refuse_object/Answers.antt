use Rattle.std.specs.Prelude.{Ok}
use Rattle.c25_tasks.specs.Disassembly.{object_line}
use Rattle.c25_tasks.proofs.Noted.{line_reported}
use Rattle.c25_tasks.proofs.disassembly.refuse_object.Goals as goal

pub returns-in-Ok : goal.returns-in-Ok
returns-in-Ok g c =
    (Ok c.in-Ok._module, c.in-Ok.ensures, line_reported (object_line c.args.file.now.name.now) c.is_object.result c.without_note.result c.without_note.ensures.ending c.without_note.ensures.note c.is_object.ensures)
