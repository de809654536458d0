use Rattle.std.proofs.Common.{rules, arith}
use Rattle.std.proofs.lemmas.Grind.{common_steps}
use Rattle.c25_earlier.proofs.lines.line_of.Goals as goal

pub returns-then-place-number : goal.returns-then-place-number
returns-then-place-number c = search rules

pub loop-row-preserved : goal.loop-row-preserved
loop-row-preserved c = grind (arith, common_steps)
