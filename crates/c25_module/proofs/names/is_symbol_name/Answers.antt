use Rattle.std.proofs.Common.{arith}
use Rattle.std.proofs.lemmas.Grind.{common_steps}
use Rattle.c25_module.proofs.names.is_symbol_name.Goals as goal

pub returns-then-begins_name : goal.returns-then-begins_name
returns-then-begins_name c = grind (arith, common_steps)
