-- the rows from here on ascend from `low` on as all do from 0 on
use Rattle.std.proofs.Common.{◌≡◌, drop}
use Rattle.c25_pages.specs.Table.{ascend_from}
use Rattle.c25_pages.proofs.table.rows_ascend.Given as goal

abbrev pub invariant-loop-row : goal.invariant-loop-row
invariant-loop-row l = ascend_from l.low (drop l.row-index l.rows) ≡ ascend_from 0 l.rows
