use Rattle.std.proofs.Common.{sym}
use Rattle.c25_warnings.proofs.lines.source_lines.Goals as goal

pub returns-in-Ok : goal.returns-in-Ok
returns-in-Ok c = sym c.in-Ok.ensures

pub returns-in-Err-Fault : goal.returns-in-Err-Fault
returns-in-Err-Fault c = sym (rw c.in-Err-Fault.field-0-is at c.in-Err-Fault.ensures)
