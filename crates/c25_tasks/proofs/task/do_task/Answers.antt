use Rattle.std.proofs.Common.{refl}
use Rattle.c25_options.specs.declared.task.Task.TheVariants.{Assemble, Link, Build, Run, RunImage, Debug, DebugImage, Explain, Disassemble, Check, Move}
use Rattle.c25_tasks.proofs.Done.{does, reported}
use Rattle.c25_tasks.proofs.Quiet.{keeps, stays}
use Rattle.c25_tasks.proofs.task.do_task.Goals as goal

pub returns-in-Assemble : goal.returns-in-Assemble
returns-in-Assemble g c = does (g.D.Disk.bytes_of c.args.disk.now) (g.D.Disk.opens c.args.disk.now) _ c.args.task.now (Assemble c.in-Assemble.task) _ c.in-Assemble.is (c.assemble.ensures, keeps _)

pub returns-in-Link : goal.returns-in-Link
returns-in-Link g c = does (g.D.Disk.bytes_of c.args.disk.now) (g.D.Disk.opens c.args.disk.now) _ c.args.task.now (Link c.in-Link.task) _ c.in-Link.is (c.link.ensures, keeps _)

pub returns-in-Build : goal.returns-in-Build
returns-in-Build g c = does (g.D.Disk.bytes_of c.args.disk.now) (g.D.Disk.opens c.args.disk.now) _ c.args.task.now (Build c.in-Build.task) _ c.in-Build.is c.build.ensures

pub returns-in-Run : goal.returns-in-Run
returns-in-Run g c = does (g.D.Disk.bytes_of c.args.disk.now) (g.D.Disk.opens c.args.disk.now) _ c.args.task.now (Run c.in-Run.task) _ c.in-Run.is c.run.ensures

pub returns-in-RunImage : goal.returns-in-RunImage
returns-in-RunImage g c = does (g.D.Disk.bytes_of c.args.disk.now) (g.D.Disk.opens c.args.disk.now) _ c.args.task.now (RunImage c.in-RunImage.task) _ c.in-RunImage.is c.run_image.ensures

pub returns-in-Debug : goal.returns-in-Debug
returns-in-Debug g c = does (g.D.Disk.bytes_of c.args.disk.now) (g.D.Disk.opens c.args.disk.now) _ c.args.task.now (Debug c.in-Debug.task) _ c.in-Debug.is (c.debug.ensures, stays _)

pub returns-in-DebugImage : goal.returns-in-DebugImage
returns-in-DebugImage g c = does (g.D.Disk.bytes_of c.args.disk.now) (g.D.Disk.opens c.args.disk.now) _ c.args.task.now (DebugImage c.in-DebugImage.task) _ c.in-DebugImage.is (c.debug_image.ensures, stays _)

pub returns-in-Explain : goal.returns-in-Explain
returns-in-Explain g c =
    reported (g.D.Disk.bytes_of c.args.disk.now) (g.D.Disk.opens c.args.disk.now) _ c.args.task.now c.explain.result c.without_note.result _ _ c.without_note.ensures.ending c.without_note.ensures.note
    (does _ _ _ c.args.task.now (Explain c.in-Explain.fault) _ c.in-Explain.is (c.explain.ensures, (stays _, refl)))

pub returns-in-Disassemble : goal.returns-in-Disassemble
returns-in-Disassemble g c = does (g.D.Disk.bytes_of c.args.disk.now) (g.D.Disk.opens c.args.disk.now) _ c.args.task.now (Disassemble c.in-Disassemble.task) _ c.in-Disassemble.is c.dis.ensures

pub returns-in-Check : goal.returns-in-Check
returns-in-Check g c = does (g.D.Disk.bytes_of c.args.disk.now) (g.D.Disk.opens c.args.disk.now) _ c.args.task.now (Check c.in-Check.task) _ c.in-Check.is (c.check.ensures, (keeps _, stays _))

pub returns-in-Move : goal.returns-in-Move
returns-in-Move g c =
    reported (g.D.Disk.bytes_of c.args.disk.now) (g.D.Disk.opens c.args.disk.now) _ c.args.task.now c.move_sources.result c.without_note-in-Move.result _ _ c.without_note-in-Move.ensures.ending c.without_note-in-Move.ensures.note
    (does _ _ _ c.args.task.now (Move c.in-Move.task) _ c.in-Move.is (c.move_sources.ensures, refl))
