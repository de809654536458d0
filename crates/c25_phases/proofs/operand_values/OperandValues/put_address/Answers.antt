use Rattle.std.proofs.Common.{arith}
use Rattle.std.proofs.lemmas.Grind.{common_steps}
use Rattle.c25_phases.proofs.operand_values.OperandValues.put_address.Goals as goal

pub returns : goal.returns
returns c = grind (arith, common_steps)
