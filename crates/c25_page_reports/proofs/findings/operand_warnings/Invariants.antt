-- the warnings of the reports so far that are shown
use Rattle.std.proofs.Common.{take}
use Rattle.std.specs.List.{AllZip}
use Rattle.c25_page_reports.specs.Findings.{IsWarningOf, shown_reports}
use Rattle.c25_page_reports.proofs.findings.operand_warnings.Given as goal

abbrev pub invariant-loop-report : goal.invariant-loop-report
invariant-loop-report l = AllZip (IsWarningOf l.subject.image.now) (shown_reports l.all (take l.report-index l.reports)) l.warnings.items
