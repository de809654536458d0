-- no token so far is SECTIONS
use Rattle.std.proofs.Common.{◌≡◌, drop}
use Rattle.c25_cmd.specs.SectionLines.{after_sections}
use Rattle.c25_cmd.specs.View.{tokens_of}
use Rattle.c25_cmd.proofs.section_lines.after_sections.Given as goal

abbrev pub invariant-loop-i : goal.invariant-loop-i
invariant-loop-i l = after_sections (tokens_of l.tokens) ≡ after_sections (tokens_of (drop l.i l.tokens))
