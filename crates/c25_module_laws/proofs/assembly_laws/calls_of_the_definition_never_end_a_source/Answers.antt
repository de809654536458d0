use Rattle.c25_module_laws.proofs.CallsSuffice.{calls_of_a_source, calls_suffice}
use Rattle.c25_module_laws.proofs.assembly_laws.calls_of_the_definition_never_end_a_source.Goals as goal

pub returns-clause-source : goal.returns-clause-source
returns-clause-source c = calls_of_a_source

pub returns-clause-lines : goal.returns-clause-lines
returns-clause-lines c = calls_suffice
