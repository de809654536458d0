use Rattle.std.proofs.Common.{◌≡◌, drop}
use Rattle.c25_expr.specs.Pieces.{operands_view}
use Rattle.c25_line_warnings.specs.View.{line_of}
use Rattle.c25_warnings.specs.View.{known_view}
use Rattle.c25_warnings.specs.Warnings.{each_once, of_addresses}
use Rattle.c25_warnings.proofs.rules.add_addresses.Given as goal

abbrev pub invariant-loop-number : goal.invariant-loop-number
invariant-loop-number l =
    each_once l.reports (of_addresses (known_view l.known) (line_of l.line) l.spelling l.number (operands_view (drop l.number l.operands)))
    ≡ each_once l.initial.reports (of_addresses (known_view l.known) (line_of l.line) l.spelling 0 (operands_view l.operands))
