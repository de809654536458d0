use Rattle.c25_count_laws.proofs.OneCount.{statements_few, words_few}
use Rattle.c25_count_laws.proofs.laws.passes_are_few.Goals as goal

pub returns-clause-words : goal.returns-clause-words
returns-clause-words c = words_few

pub returns-clause-statements : goal.returns-clause-statements
returns-clause-statements c = statements_few
