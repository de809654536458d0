use Rattle.std.proofs.Common.{arith}
use Rattle.std.proofs.lemmas.Grind.{common_steps}
use Rattle.c25_macro.proofs.expander.Expander.missing.Goals as goal

pub returns-in-NoModule : goal.returns-in-NoModule
returns-in-NoModule c = grind (arith, common_steps)
