use Rattle.std.proofs.Common.{arith}
use Rattle.std.proofs.lemmas.Grind.{common_steps}
use Rattle.c25_hex.specs.Hex.{checked_line}
use Rattle.c25_hex.proofs.line.kind_of.Goals as goal

pub returns-in_default-clause-checked : goal.returns-in_default-clause-checked
unfolding checked_line
returns-in_default-clause-checked c = grind (arith, common_steps)

pub returns-then-not-has_count-clause-checked : goal.returns-then-not-has_count-clause-checked
unfolding checked_line
returns-then-not-has_count-clause-checked c = grind (arith, common_steps)

pub returns-clause-checked : goal.returns-clause-checked
unfolding checked_line
returns-clause-checked c = grind (arith, common_steps)
