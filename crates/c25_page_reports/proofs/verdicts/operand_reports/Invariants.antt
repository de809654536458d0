-- the reports of the operands so far
use Rattle.std.proofs.Common.{◌≡◌, take}
use Rattle.c25_pages.specs.Program.{statements_of}
use Rattle.c25_page_reports.specs.Verdicts.{operand_reports}
use Rattle.c25_page_reports.proofs.verdicts.operand_reports.Given as goal

abbrev pub invariant-loop-operand : goal.invariant-loop-operand
invariant-loop-operand l = l.reports.items ≡ operand_reports (statements_of l.program) l.rows (take l.operand-index l.operands)
