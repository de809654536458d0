-- the statements of the marks so far
use Rattle.std.proofs.Common.{take}
use Rattle.c25_meaning_processor.specs.FirstState.{memory_of_map}
use Rattle.c25_page_reports.specs.Statements.{ArePlain}
use Rattle.c25_page_reports.proofs.statements.plain_statements.Given as goal

abbrev pub invariant-loop-mark : goal.invariant-loop-mark
invariant-loop-mark l = ArePlain (memory_of_map l.words) (take l.mark-index l.marks) l.statements.items
