use Rattle.c25_options.specs.Task.{text_of}
use Rattle.c25_tasks.specs.Roms.{rom_asked}
use Rattle.c25_tasks.proofs.Answering.{builds_asked, builds_misused}
use Rattle.c25_tasks.proofs.Quiet.{keeps, stays}
use Rattle.c25_tasks.proofs.build_to_disk.build.Goals as goal

pub returns-in-Ok : goal.returns-in-Ok
returns-in-Ok g c =
    let task = c.args.task.now in
    builds_asked (g.D.Disk.bytes_of c.args.disk.now) (g.D.Disk.opens c.args.disk.now) task _ _ _ (rom_asked (text_of task.rom.size) (text_of task.rom.fill)) c.rom_asked.result c.in-Ok.rom _ c.rom_asked.ensures c.in-Ok.is c.build_with.ensures

pub returns-in-Err : goal.returns-in-Err
returns-in-Err g c =
    let task = c.args.task.now in
    builds_misused (g.D.Disk.bytes_of c.args.disk.now) (g.D.Disk.opens c.args.disk.now) task _ _ _ (rom_asked (text_of task.rom.size) (text_of task.rom.fill)) c.rom_asked.result c.in-Err.ending _ c.rom_asked.ensures c.in-Err.is c.without_note.ensures.ending
    c.without_note.ensures.note (stays _) (keeps _)
