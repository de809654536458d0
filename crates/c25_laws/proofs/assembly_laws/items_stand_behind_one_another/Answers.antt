use Rattle.c25_laws.proofs.ItemsLinked.{item_count}
use Rattle.c25_laws.proofs.WordsOfSources.{items_laid}
use Rattle.c25_laws.proofs.assembly_laws.items_stand_behind_one_another.Goals as goal

pub returns-clause-places : goal.returns-clause-places
returns-clause-places c = items_laid

pub returns-clause-sizes : goal.returns-clause-sizes
returns-clause-sizes c modules places number m names i = item_count modules places number m names i i.content
