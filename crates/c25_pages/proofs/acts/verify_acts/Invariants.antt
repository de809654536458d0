-- each row so far leads on
use Rattle.std.proofs.Common.{take}
use Rattle.std.specs.List.{All}
use Rattle.c25_pages.specs.Clauses.{ActsAt}
use Rattle.c25_pages.specs.Program.{statements_of}
use Rattle.c25_pages.specs.Table.{knowledge_of}
use Rattle.c25_pages.proofs.acts.verify_acts.Given as goal

abbrev pub invariant-loop-row : goal.invariant-loop-row
invariant-loop-row l = All (ActsAt (statements_of l.program) (knowledge_of l.table)) (take l.row-index l.table.rows.items)
