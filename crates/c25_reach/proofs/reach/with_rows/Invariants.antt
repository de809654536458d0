-- what was counted, with what the rows that are left are, is what all are; the memory has room for these
use Rattle.std.proofs.Common.{◌≡◌, drop, length}
use Rattle.c25_layout.specs.Layout.{rows_words}
use Rattle.c25_reach.specs.Reached.{rows_reach, together}
use Rattle.c25_reach.specs.Room.{HasRoom}
use Rattle.c25_reach.proofs.reach.with_rows.Given as goal

abbrev pub invariant-loop-row : goal.invariant-loop-row
invariant-loop-row l = record {
  counted : together l.reach (rows_reach (drop l.row-index l.rows)) ≡ together l.fn.before (rows_reach l.rows);
  room : HasRoom l.reach (length (rows_words (drop l.row-index l.rows)));
}
