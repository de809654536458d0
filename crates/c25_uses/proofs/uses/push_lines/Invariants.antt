use Rattle.std.proofs.Common.{◌≡◌, ◌++◌, drop}
use Rattle.c25_uses.specs.UsedNames.{bytes_of}
use Rattle.c25_uses.specs.Uses.{uses_in_lines}
use Rattle.c25_line_warnings.specs.View.{lines_of}
use Rattle.c25_uses.proofs.uses.push_lines.Given as goal

abbrev pub invariant-loop-line : goal.invariant-loop-line
invariant-loop-line l = bytes_of l.names.items ++ uses_in_lines (lines_of (drop l.line-index l.lines)) ≡ bytes_of l.initial.names.items ++ uses_in_lines (lines_of l.lines)
