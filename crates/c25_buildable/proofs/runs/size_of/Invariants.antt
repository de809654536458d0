-- the words of the rows so far
use Rattle.std.proofs.Common.{◌≡◌, length, take}
use Rattle.c25_layout.specs.Layout.{rows_words}
use Rattle.c25_buildable.proofs.runs.size_of.Given as goal

abbrev pub invariant-loop-row : goal.invariant-loop-row
invariant-loop-row l = l.size ≡ length (rows_words (take l.row-index l.rows))
