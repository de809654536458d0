-- each interrupt at the rows so far begins a routine
use Rattle.std.proofs.Common.{take}
use Rattle.std.specs.List.{All}
use Rattle.c25_pages.specs.Clauses.{InterruptsAt}
use Rattle.c25_pages.specs.Table.{knowledge_of}
use Rattle.c25_pages.proofs.interrupts.verify_interrupts.Given as goal

abbrev pub invariant-loop-row : goal.invariant-loop-row
invariant-loop-row l = All (InterruptsAt (knowledge_of l.table)) (take l.row-index l.table.rows.items)
