-- the statements from here on ascend from `low` on as all do from 0 on
use Rattle.std.proofs.Common.{◌≡◌, drop}
use Rattle.c25_pages.specs.Program.{statements_ascend_from}
use Rattle.c25_pages.proofs.program.statements_ascend.Given as goal

abbrev pub invariant-loop-statement : goal.invariant-loop-statement
invariant-loop-statement l = statements_ascend_from l.low (drop l.statement-index l.statements) ≡ statements_ascend_from 0 l.statements
