use Rattle.std.proofs.Common.{arith}
use Rattle.std.proofs.lemmas.Grind.{common_steps}
use Rattle.c25_meaning_assembly.specs.AssemblyLine.{directive_of, is_ignored}
use Rattle.c25_statements.proofs.names.directive_of.Goals as goal

pub returns-else-is_dotted : goal.returns-else-is_dotted
unfolding directive_of is_ignored
returns-else-is_dotted c = grind (arith, common_steps)
