-- one of the lines that are left has such an instruction where one of all has
use Rattle.std.proofs.Common.{◌≡◌, drop}
use Rattle.c25_line_warnings.specs.View.{lines_of}
use Rattle.c25_warnings.specs.Data.{any_moves}
use Rattle.c25_warnings.proofs.data.any_moves.Given as goal

abbrev pub invariant-loop-line : goal.invariant-loop-line
invariant-loop-line l = any_moves (lines_of (drop l.line-index l.lines)) ≡ any_moves (lines_of l.lines)
