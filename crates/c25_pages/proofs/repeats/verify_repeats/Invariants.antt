-- each row so far may be repeated
use Rattle.std.proofs.Common.{take}
use Rattle.std.specs.List.{All}
use Rattle.c25_pages.specs.Clauses.{RepeatsAt}
use Rattle.c25_pages.specs.Program.{statements_of}
use Rattle.c25_pages.specs.Table.{knowledge_of}
use Rattle.c25_pages.proofs.repeats.verify_repeats.Given as goal

abbrev pub invariant-loop-row : goal.invariant-loop-row
invariant-loop-row l = All (RepeatsAt (statements_of l.program) (knowledge_of l.table)) (take l.row-index l.table.rows.items)
