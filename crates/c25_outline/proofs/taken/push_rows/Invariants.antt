-- the lines so far, with those that are left, are those of all
use Rattle.std.proofs.Common.{◌≡◌, ◌++◌, length}
use Rattle.std.specs.List.{flat_map}
use Rattle.std.specs.Prelude.{string_bytes}
use Rattle.c25_meaning_expansion.specs.Rows.{rows_of}
use Rattle.c25_outline.specs.Taken.{begun_of, row_text}
use Rattle.c25_outline.proofs.taken.push_rows.Given as goal

abbrev pub invariant-loop-row : goal.invariant-loop-row
invariant-loop-row l =
    string_bytes l.shown ++ flat_map (row_text (begun_of l.begun) l.file) l.passage.rest
    ≡ string_bytes l.initial.shown ++ flat_map (row_text (begun_of l.begun) l.file) (rows_of 0 l.text)

abbrev pub decreases-loop-row : goal.decreases-loop-row
decreases-loop-row l = length l.passage.rest
