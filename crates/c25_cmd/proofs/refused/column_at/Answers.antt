use Rattle.std.proofs.Common.{arith}
use Rattle.std.proofs.lemmas.Grind.{common_steps}
use Rattle.c25_cmd.proofs.refused.column_at.Goals as goal

pub loop-byte-init : goal.loop-byte-init
loop-byte-init c = grind (arith, common_steps)
