use Rattle.c25_module_laws.proofs.ModulesOfSources.{source_good}
use Rattle.c25_module_laws.proofs.assembly_laws.sources_make_modules.Goals as goal

pub returns : goal.returns
returns c files name a is = source_good files name a is
