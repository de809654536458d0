use Rattle.c25_source_laws.proofs.ReservedInModules as modules
use Rattle.c25_source_laws.proofs.reservation_laws.reserved_words_are_apart.Goals as goal

pub returns-clause-places : goal.returns-clause-places
returns-clause-places c = modules.places

pub returns-clause-sizes : goal.returns-clause-sizes
returns-clause-sizes c = modules.sizes

pub returns-clause-apart : goal.returns-clause-apart
returns-clause-apart c = modules.apart

pub returns-clause-items : goal.returns-clause-items
returns-clause-items c = modules.items

pub returns-clause-names : goal.returns-clause-names
returns-clause-names c = modules.names
