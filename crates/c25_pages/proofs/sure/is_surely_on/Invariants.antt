-- DP is the page at each row so far that is at the address
use Rattle.std.proofs.Common.{take}
use Rattle.std.specs.List.{All}
use Rattle.c25_pages.specs.Clauses.{IsOnAt}
use Rattle.c25_pages.proofs.sure.is_surely_on.Given as goal

abbrev pub invariant-loop-row : goal.invariant-loop-row
invariant-loop-row l = All (IsOnAt l.address l.page) (take l.row-index l.table.rows.items)
