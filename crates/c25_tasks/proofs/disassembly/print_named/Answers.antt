use Rattle.std.proofs.Common.{inl}
use Rattle.c25_tasks.proofs.Quiet.{keeps}
use Rattle.c25_tasks.proofs.disassembly.print_named.Goals as goal

pub returns-in-Err : goal.returns-in-Err
returns-in-Err g c = inl ((c.fault_of_file.result, (c.in-Err.failure, c.in-Err.ensures.fault, c.fault_of_file.ensures), c.report_of_fault.ensures), keeps _)
