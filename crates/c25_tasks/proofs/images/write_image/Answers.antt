use Rattle.std.proofs.Common.{inl}
use Rattle.c25_tasks.proofs.Imaged.{does_source}
use Rattle.c25_tasks.proofs.Quiet.{keeps, stays}
use Rattle.c25_tasks.proofs.images.write_image.Goals as goal

pub returns-in-Err : goal.returns-in-Err
returns-in-Err g c = inl (((_, c.without_note.ensures.ending), c.without_note.ensures.note, stays _), keeps _)

pub returns : goal.returns
returns g c =
    does_source (g.D.Disk.bytes_of c.args.disk.now) _ c.notes_under.result c.args.explain c.args.asked c.first_file.result c.in-Ok.names _ _ _ _ c.in-Ok.ensures c.without_definitions.ensures c.first_file.ensures c.notes_under.ensures c.write_unless.ensures
