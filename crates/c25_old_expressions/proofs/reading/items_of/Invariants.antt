-- what is read from here is what is read from the start
use Rattle.std.proofs.Common.{◌≡◌, drop}
use Rattle.c25_old_expressions.specs.Marks.{marks_of}
use Rattle.c25_old_expressions.specs.Reader.{run, start, state_of}
use Rattle.c25_old_expressions.proofs.reading.items_of.Given as goal

abbrev pub invariant-loop-symbol : goal.invariant-loop-symbol
invariant-loop-symbol l = run l.order (marks_of (drop l.symbol-index l.symbols)) (state_of l.reader) ≡ run l.order (marks_of l.symbols) start
