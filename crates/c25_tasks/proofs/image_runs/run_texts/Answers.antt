use Rattle.std.proofs.Common.{List, inl, inr, map, string_bytes, subst}
use Rattle.c25_fronts.specs.Fronts.{entry_of, fronted, with_fronts}
use Rattle.c25_fronts.specs.declared.front.Front.{Front}
use Rattle.c25_tasks.proofs.Quiet.{keeps, stays}
use Rattle.c25_tasks.specs.Counting.{DoesRun}
use Rattle.c25_tasks.proofs.image_runs.run_texts.Goals as goal

pub returns-in-Ok : goal.returns-in-Ok
returns-in-Ok g c =
    let held = g.D.Disk.bytes_of c.args.disk.now in
    let opens = g.D.Disk.opens c.args.disk.now in
    let report = c.run_with.result in
    inr (c.in-Ok.run', c.in-Ok.ensures, subst (λ (fs : List Front). DoesRun (fronted (map entry_of fs) held) (with_fronts (map entry_of fs) opens) c.in-Ok.run' report.ending (string_bytes report.note) (g.O.Write.contents c.args.out.now, g.O.Write.contents c.run_with.new.out) (g.D.Disk.written c.args.disk.now, g.D.Disk.written c.run_with.new.disk)) c.as_slice.ensures.value c.run_with.ensures)

pub returns-in-Err : goal.returns-in-Err
returns-in-Err g c = inl (((_, c.without_note.ensures.ending), c.without_note.ensures.note, stays _), keeps _)
