use Rattle.c25_line_faults.proofs.Faults.{none_more, some_more}
use Rattle.c25_line_faults.proofs.expansion_lines.names_fault.Goals as goal

pub returns-in-Some : goal.returns-in-Some
returns-in-Some c = some_more _ c.args.operands.now c.loop-operand.operand-index c.in-Some.fault c.loop-operand-test.true c.in-Some.ensures c.loop-operand.invariant

pub loop-operand-preserved : goal.loop-operand-preserved
loop-operand-preserved c = none_more _ c.args.operands.now c.loop-operand.operand-index c.loop-operand-test.true c.in-None.ensures c.loop-operand.invariant
