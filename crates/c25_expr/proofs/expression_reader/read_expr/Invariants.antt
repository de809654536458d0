use Rattle.std.proofs.Common.{◌≡◌, ◌≤◌, drop}
use Rattle.c25_meaning_language.specs.Reading.{run, start}
use Rattle.c25_expr.proofs.Reach.{reach}
use Rattle.c25_expr.specs.View.{marks_of, state_of}
use Rattle.c25_expr.proofs.Accepts.{HasShape}
use Rattle.c25_expr.proofs.expression_reader.read_expr.Given as goal

-- what is found from here is what is found from the start, and nothing is too deep yet
abbrev pub invariant-loop-i : goal.invariant-loop-i
invariant-loop-i l = record {
  told : run (marks_of (drop l.i l.tokens)) (state_of l.builder) ≡ run (marks_of l.tokens) start;
  shape : HasShape (state_of l.builder);
  shallow : reach (state_of l.builder) ≤ 64;
}
