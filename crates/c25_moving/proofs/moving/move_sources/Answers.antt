use Rattle.c25_moving.proofs.MadeFrom.{done}
use Rattle.c25_moving.proofs.moving.move_sources.Goals as goal

pub returns-in-Ok : goal.returns-in-Ok
returns-in-Ok g c =
    done (g.D.Disk.bytes_of c.args.disk.now) c.args.task.now c.in-Ok.gathered c.in-Ok.made c.finished.result (g.D.Disk.written c.args.disk.now) (g.D.Disk.written c.finished.new.disk)
    (g.O.Write.contents c.args.out.now) (g.O.Write.contents c.finished.new.out) c.in-Ok.ensures.old c.in-Ok.ensures.made c.finished.ensures
