use Rattle.c25_line_faults.proofs.Faults.{ordered, same_fault}
use Rattle.c25_line_faults.proofs.expansion_lines.order_fault.Goals as goal

pub returns-in-Ok : goal.returns-in-Ok
returns-in-Ok c = same_fault c.operands_fault.result _ _ (ordered _ _ _ c.in-Ok.ensures) c.operands_fault.ensures
