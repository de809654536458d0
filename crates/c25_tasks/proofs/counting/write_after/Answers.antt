use Rattle.std.proofs.Common.{inr}
use Rattle.c25_tasks.proofs.Quiet.{unwritten}
use Rattle.c25_tasks.proofs.counting.write_after.Goals as goal

pub returns-in-Err : goal.returns-in-Err
returns-in-Err g c = λ held.
    inr (unwritten _ held c.args.notes _ _ c.args.outputs.now c.in-Err.failure c.fault_of_file.result _ _ c.in-Err.ensures.fault c.fault_of_file.ensures c.report_of_fault.ensures)
