use Rattle.std.proofs.Common.{arith}
use Rattle.std.proofs.lemmas.Grind.{common_steps}
use Rattle.c25_expr.proofs.directive_operands.expression_in.Goals as goal

pub returns-in-Expression : goal.returns-in-Expression
returns-in-Expression c = grind (arith, common_steps)
