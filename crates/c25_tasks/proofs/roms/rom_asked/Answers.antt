use Rattle.c25_options.specs.Task.{text_of}
use Rattle.c25_tasks.proofs.Answering.{size_asked, size_misused}
use Rattle.c25_tasks.proofs.roms.rom_asked.Goals as goal

pub returns-in-Ok : goal.returns-in-Ok
returns-in-Ok c = size_asked c.args.options.size c.in-Some.argument (text_of c.args.options.fill) c.shaped.result c.in-Some.is c.shaped.ensures c.in-Ok.asked c.in-Ok.is

pub returns-in-Err : goal.returns-in-Err
returns-in-Err c = size_misused c.args.options.size c.in-Some.argument (text_of c.args.options.fill) c.shaped.result c.in-Some.is c.shaped.ensures c.in-Err.ending c.in-Err.is
