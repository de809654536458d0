use Rattle.std.proofs.Common.{drop, string_bytes}
use Rattle.c25_meaning_debugger.specs.Debugger.{source_line_at}
use Rattle.c25_debug.proofs.Listed.{Finishes}
use Rattle.c25_debug.proofs.answers.instructions.push_instructions.Given as goal

abbrev pub invariant-loop-mark : goal.invariant-loop-mark
invariant-loop-mark l =
    Finishes l.image.program (source_line_at l.image) l.mark-items l.address l.count (string_bytes l.fn.text) (drop l.mark-index l.mark-items) l.left (string_bytes l.text)
