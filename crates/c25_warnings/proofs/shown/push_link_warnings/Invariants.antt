use Rattle.std.proofs.Common.{◌≡◌, ◌++◌, drop, string_bytes}
use Rattle.c25_warnings.specs.Shown.{link_warning_lines}
use Rattle.c25_warnings.specs.View.{link_warnings_view}
use Rattle.c25_warnings.proofs.shown.push_link_warnings.Given as goal

abbrev pub invariant-loop-warning : goal.invariant-loop-warning
invariant-loop-warning l = string_bytes l.text ++ link_warning_lines (link_warnings_view (drop l.warning-index l.warnings)) ≡ string_bytes l.initial.text ++ link_warning_lines (link_warnings_view l.warnings)
