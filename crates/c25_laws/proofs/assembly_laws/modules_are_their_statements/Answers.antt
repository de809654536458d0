use Rattle.c25_laws.proofs.StatementsOfSources.{source_said}
use Rattle.c25_laws.proofs.assembly_laws.modules_are_their_statements.Goals as goal

pub returns : goal.returns
returns c files name a is = source_said files name a is
