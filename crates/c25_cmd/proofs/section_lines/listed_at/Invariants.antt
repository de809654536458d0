-- no token so far ends the search
use Rattle.std.proofs.Common.{◌≡◌, drop}
use Rattle.c25_cmd.specs.SectionLines.{listed_at}
use Rattle.c25_cmd.specs.View.{tokens_of}
use Rattle.c25_cmd.proofs.section_lines.listed_at.Given as goal

abbrev pub invariant-loop-i : goal.invariant-loop-i
invariant-loop-i l = listed_at l.name (tokens_of l.tokens) ≡ listed_at l.name (tokens_of (drop l.i l.tokens))
