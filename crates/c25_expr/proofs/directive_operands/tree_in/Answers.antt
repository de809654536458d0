use Rattle.std.proofs.Common.{rules, arith}
use Rattle.std.proofs.lemmas.Grind.{common_steps}
use Rattle.c25_expr.proofs.directive_operands.tree_in.Goals as goal

pub returns-in-Ok : goal.returns-in-Ok
returns-in-Ok c = search rules

pub returns-in-Err-Fault : goal.returns-in-Err-Fault
returns-in-Err-Fault c = grind (arith, common_steps)
