use Rattle.c25_count_laws.proofs.OneCount.{statements_count, words_count}
use Rattle.c25_count_laws.proofs.laws.counts_are_of_runs.Goals as goal

pub returns-clause-words : goal.returns-clause-words
returns-clause-words c = words_count

pub returns-clause-statements : goal.returns-clause-statements
returns-clause-statements c = statements_count
