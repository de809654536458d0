use Rattle.std.proofs.Common.{arith}
use Rattle.std.proofs.lemmas.Grind.{common_steps}
use Rattle.c25_hex.proofs.writer.Writer.put_stretch.Goals as goal

pub returns-clause-text : goal.returns-clause-text
returns-clause-text c = grind (arith, common_steps)

pub returns-clause-base : goal.returns-clause-base
returns-clause-base c = grind (arith, common_steps)
