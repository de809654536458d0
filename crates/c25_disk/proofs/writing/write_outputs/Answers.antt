use Rattle.std.proofs.Common.{rules}
use Rattle.c25_disk.proofs.Added.{unwritten, adds_none, adds_more, adds_all}
use Rattle.c25_disk.proofs.writing.write_outputs.Goals as goal

pub returns-in-Err-clause-fault : goal.returns-in-Err-clause-fault
returns-in-Err-clause-fault g c =
    unwritten (g.D.Disk.written c.args.disk.now) (g.D.Disk.written c.loop-output.disk) (g.D.Disk.written c.write.new.self) c.args.outputs.now c.loop-output.output-index _ c.output-item.result c.fault_of_file.result
    c.loop-output-test.true c.output-item.is c.loop-output.invariant c.in-Err.ensures.refused c.fault_of_file.ensures

pub loop-output-preserved : goal.loop-output-preserved
loop-output-preserved c = search (rules, adds_none, adds_more, adds_all)
