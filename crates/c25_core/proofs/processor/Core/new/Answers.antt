use Rattle.std.proofs.Common.{arith}
use Rattle.std.proofs.lemmas.Grind.{common_steps}
use Rattle.c25_meaning_processor.specs.Reset.{reset}
use Rattle.c25_core.proofs.processor.Core.new.Goals as goal

pub returns : goal.returns
unfolding reset
returns c = grind (arith, common_steps)
