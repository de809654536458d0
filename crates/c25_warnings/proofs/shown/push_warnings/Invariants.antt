use Rattle.std.proofs.Common.{◌≡◌, ◌++◌, drop, string_bytes}
use Rattle.c25_warnings.specs.Shown.{warning_lines}
use Rattle.c25_warnings.specs.View.{warnings_view}
use Rattle.c25_warnings.proofs.shown.push_warnings.Given as goal

abbrev pub invariant-loop-warning : goal.invariant-loop-warning
invariant-loop-warning l = string_bytes l.text ++ warning_lines (warnings_view (drop l.warning-index l.warnings)) ≡ string_bytes l.initial.text ++ warning_lines (warnings_view l.warnings)
