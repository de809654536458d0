use Rattle.c25_tasks.proofs.Answering.{does_assemble}
use Rattle.c25_tasks.proofs.assembly.assemble.Goals as goal

pub returns : goal.returns
returns g c =
    does_assemble (g.D.Disk.bytes_of c.args.disk.now) (g.D.Disk.opens c.args.disk.now) c.args.task.now _ _ _ c.notes_under-notes.result _ _ _ c.from_ref.ensures.value c.deref.ensures.value c.deref-2.ensures.value c.notes_under-notes.ensures c.assemble_with.ensures
