use Rattle.std.proofs.Common.{arith}
use Rattle.std.proofs.lemmas.Grind.{common_steps}
use Rattle.c25_statements.proofs.statement.Exprs.as_slice.Goals as goal

pub returns-in-Several : goal.returns-in-Several
returns-in-Several c = grind (arith, common_steps)
