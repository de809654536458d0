-- the lines of the warnings that are left complete those of all
use Rattle.std.proofs.Common.{◌≡◌, ◌++◌, drop, string_bytes}
use Rattle.c25_page_reports.specs.Warnings.{page_warning_lines}
use Rattle.c25_page_reports.proofs.warning.write_page_warnings.Given as goal

abbrev pub invariant-loop-warning : goal.invariant-loop-warning
invariant-loop-warning l = string_bytes l.text ++ page_warning_lines (drop l.warning-index l.warnings) ≡ page_warning_lines l.warnings
