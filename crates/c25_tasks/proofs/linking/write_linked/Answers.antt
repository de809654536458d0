use Rattle.c25_tasks.proofs.Written.{linked_written}
use Rattle.c25_tasks.proofs.linking.write_linked.Goals as goal

pub returns-in-Ok : goal.returns-in-Ok
returns-in-Ok g c = linked_written (g.D.Disk.bytes_of c.args.disk.now) c.args.notes c.args.base.now c.args.answer c.in-Ok.built _ _ _ c.in-Ok.is (c.write_program.ensures _)
