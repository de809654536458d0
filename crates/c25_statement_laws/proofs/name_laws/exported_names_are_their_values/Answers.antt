use Rattle.c25_statement_laws.proofs.NamesNeeded.{imported}
use Rattle.c25_statement_laws.proofs.NamesExported.{exported_is, exported_once, name_comes, number_comes}
use Rattle.c25_statement_laws.proofs.name_laws.exported_names_are_their_values.Goals as goal

pub returns-clause-exported : goal.returns-clause-exported
returns-clause-exported c files names modules command image of p text = exported_is files names modules of command.entry p.names text p.places

pub returns-clause-once : goal.returns-clause-once
returns-clause-once c files names modules command image of p text = exported_once files names modules of command.entry p.names text

pub returns-clause-imported : goal.returns-clause-imported
returns-clause-imported c files names modules command image of p = imported files names modules of command.entry p.names

pub returns-clause-names : goal.returns-clause-names
returns-clause-names c files names modules places of = name_comes files names modules places of

pub returns-clause-numbers : goal.returns-clause-numbers
returns-clause-numbers c files names modules places of = number_comes files names modules places of
