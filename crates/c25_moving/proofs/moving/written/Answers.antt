use Rattle.c25_moving.proofs.Refusing.{unwritten_fault, unwritten_short}
use Rattle.c25_moving.proofs.moving.written.Goals as goal

pub returns-in-Err-NoMemory : goal.returns-in-Err-NoMemory
returns-in-Err-NoMemory g c =
    unwritten_short c.args.outputs.now c.args.made.now _ c.in-Err-NoMemory.error c.short.result (g.D.Disk.written c.args.disk.now) (g.D.Disk.written c.write_outputs.new.disk) (g.O.Write.contents c.args.out.now)
    c.in-Err-NoMemory.field-0-is c.in-Err-NoMemory.ensures.fault c.short.ensures

pub returns-in-Err-Fault : goal.returns-in-Err-Fault
returns-in-Err-Fault g c =
    unwritten_fault c.args.outputs.now c.args.made.now _ c.in-Err-Fault.placed c.as_str.result.now c.unwritten.result (g.D.Disk.written c.args.disk.now) (g.D.Disk.written c.write_outputs.new.disk) (g.O.Write.contents c.args.out.now)
    c.in-Err-Fault.field-0-is c.as_str.ensures.value c.in-Err-Fault.ensures.fault c.unwritten.ensures
