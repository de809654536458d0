use Rattle.c25_line_faults.proofs.Faults.{one_condition, same_faults}
use Rattle.c25_line_faults.proofs.expansion_lines.condition_fault.Goals as goal

pub returns-in-len1 : goal.returns-in-len1
returns-in-len1 c = same_faults c.expression_fault.result _ _ (one_condition _ c.args.operands.now c.in-len1.len_at_least c.in-len1.len_below) c.expression_fault.ensures
