use Rattle.std.proofs.Common.{◌≡◌, length}
use Rattle.std.specs.List.{find}
use Rattle.std.specs.Prelude.{◌==◌}
use Rattle.c25_meaning_expansion.specs.Rows.{rows_of}
use Rattle.c25_earlier.proofs.lines.line_of.Given as goal

abbrev pub invariant-loop-row : goal.invariant-loop-row
invariant-loop-row l = find (λ row. row.place.line == l.number) l.passage.rest ≡ find (λ row. row.place.line == l.number) (rows_of 0 l.text)

abbrev pub decreases-loop-row : goal.decreases-loop-row
decreases-loop-row l = length l.passage.rest
