use Rattle.std.proofs.Common.{arith}
use Rattle.std.proofs.lemmas.Grind.{common_steps}
use Rattle.c25_symbols.proofs.entries.low_value.Goals as goal

pub returns-in-Loaded : goal.returns-in-Loaded
returns-in-Loaded c = grind (arith, common_steps)
