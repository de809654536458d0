-- what is open after the lines so far and those that are left is what is open after all
use Rattle.std.proofs.Common.{◌≡◌, [], length}
use Rattle.c25_meaning_expansion.specs.Rows.{rows_of}
use Rattle.c25_outline.specs.Blocks.{open_after}
use Rattle.c25_outline.proofs.blocks.innermost.Given as goal

abbrev pub invariant-loop-row : goal.invariant-loop-row
invariant-loop-row l = open_after l.last l.passage.rest l.begun.items ≡ open_after l.last (rows_of 0 l.text) []

abbrev pub decreases-loop-row : goal.decreases-loop-row
decreases-loop-row l = length l.passage.rest
