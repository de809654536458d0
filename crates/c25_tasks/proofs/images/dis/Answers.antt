use Rattle.std.specs.Prelude.{Err, Ok}
use Rattle.c25_image_source.specs.Asked.{dis_asked, mistake_text}
use Rattle.c25_tasks.proofs.Imaged.{does_by, only_misuse}
use Rattle.c25_tasks.proofs.Quiet.{keeps, stays}
use Rattle.c25_tasks.proofs.images.dis.Goals as goal

pub returns-in-Ok : goal.returns-in-Ok
returns-in-Ok g c =
    let task = c.args.task.now in
    does_by (g.D.Disk.bytes_of c.args.disk.now) task.explain _ _ _ _ (dis_asked task) c.dis_asked.result (Ok c.in-Ok.asked) c.dis_asked.ensures c.in-Ok.is c.do_asked.ensures

pub returns-in-Err : goal.returns-in-Err
returns-in-Err g c =
    let task = c.args.task.now in
    let misuse = only_misuse (mistake_text c.in-Err.mistake) c.misused.result _ _ _ _ c.without_note.ensures.ending c.without_note.ensures.note c.misused.ensures (stays _) (keeps _) in
    does_by (g.D.Disk.bytes_of c.args.disk.now) task.explain _ _ _ _ (dis_asked task) c.dis_asked.result (Err c.in-Err.mistake) c.dis_asked.ensures c.in-Err.is misuse
