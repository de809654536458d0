use Rattle.std.proofs.Common.{List, inl, inr, map, string_bytes, subst}
use Rattle.c25_fronts.specs.Fronts.{entry_of, fronted, with_fronts}
use Rattle.c25_fronts.specs.declared.front.Front.{Front}
use Rattle.c25_tasks.proofs.Quiet.{keeps}
use Rattle.c25_tasks.specs.Debugging.{DoesDebug}
use Rattle.c25_tasks.proofs.image_runs.debug_with.Goals as goal

pub returns-in-Ok : goal.returns-in-Ok
returns-in-Ok g c =
    let held = g.D.Disk.bytes_of c.args.disk.now in
    let opens = g.D.Disk.opens c.args.disk.now in
    let report = c.debug.result in
    inr (c.in-Ok.task, c.in-Ok.ensures, subst (λ (fs : List Front). DoesDebug (fronted (map entry_of fs) held) (with_fronts (map entry_of fs) opens) (g.R.Read.remaining c.args.input.now) c.in-Ok.task report.ending (string_bytes report.note) (g.O.Write.contents c.args.out.now, g.O.Write.contents c.debug.new.out)) c.as_slice.ensures.value c.debug.ensures)

pub returns-in-Err : goal.returns-in-Err
returns-in-Err g c = inl ((_, c.without_note.ensures.ending), c.without_note.ensures.note, keeps _)
