use Rattle.std.proofs.Common.{◌≡◌, drop}
use Rattle.c25_line_warnings.specs.Reach.{nothing}
use Rattle.c25_line_warnings.specs.View.{lines_of}
use Rattle.c25_warnings.specs.View.{known_view}
use Rattle.c25_warnings.specs.Warnings.{each_once, of_lines}
use Rattle.c25_warnings.proofs.rules.add_lines.Given as goal

abbrev pub invariant-loop-line : goal.invariant-loop-line
invariant-loop-line l =
    each_once l.reports (of_lines (known_view l.known) l.before (lines_of (drop l.line-index l.lines)))
    ≡ each_once l.initial.reports (of_lines (known_view l.known) nothing (lines_of l.lines))
