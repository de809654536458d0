use Rattle.std.proofs.Common.{◌≡◌, ◌++◌, length, string_bytes}
use Rattle.std.specs.List.{flat_map}
use Rattle.c25_coverage.specs.List.{counted_row}
use Rattle.c25_meaning_expansion.specs.Rows.{rows_of}
use Rattle.c25_coverage.proofs.list.push_rows.Given as goal

abbrev pub invariant-loop-row : goal.invariant-loop-row
invariant-loop-row l =
    string_bytes l.text ++ flat_map (counted_row l.counts.entries l.ways.entries) l.passage.rest
    ≡ string_bytes l.fn.text ++ flat_map (counted_row l.counts.entries l.ways.entries) (rows_of 0 l.file)

abbrev pub decreases-loop-row : goal.decreases-loop-row
decreases-loop-row l = length l.passage.rest
