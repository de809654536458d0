-- the rows so far are without their names
use Rattle.std.proofs.Common.{take}
use Rattle.c25_buildable.specs.Bare.{AreBareRows}
use Rattle.c25_buildable.proofs.bare.bare_rows.Given as goal

abbrev pub invariant-loop-row : goal.invariant-loop-row
invariant-loop-row l = AreBareRows (take l.row-index l.rows) l.made.items
