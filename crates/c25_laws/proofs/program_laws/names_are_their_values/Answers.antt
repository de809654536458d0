use Rattle.c25_laws.proofs.NamesDefined.{equated, labelled, loaded}
use Rattle.c25_laws.proofs.program_laws.names_are_their_values.Goals as goal

pub returns-clause-equated : goal.returns-clause-equated
returns-clause-equated c = equated

pub returns-clause-labelled : goal.returns-clause-labelled
returns-clause-labelled c = labelled

pub returns-clause-loaded : goal.returns-clause-loaded
returns-clause-loaded c = loaded
