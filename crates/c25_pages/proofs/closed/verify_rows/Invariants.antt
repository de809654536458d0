-- each row so far is closed
use Rattle.std.proofs.Common.{take}
use Rattle.std.specs.List.{All}
use Rattle.c25_pages.specs.Clauses.{ClosedAt}
use Rattle.c25_pages.specs.Program.{statements_of}
use Rattle.c25_pages.proofs.closed.verify_rows.Given as goal

abbrev pub invariant-loop-row : goal.invariant-loop-row
invariant-loop-row l = All (ClosedAt (statements_of l.program)) (take l.row-index l.table.rows.items)
