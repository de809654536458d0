use Rattle.c25_count_laws.proofs.AllSteps.{statements_all, words_all}
use Rattle.c25_count_laws.proofs.laws.counts_and_sleep_are_all_steps.Goals as goal

pub returns-clause-words : goal.returns-clause-words
returns-clause-words c = words_all

pub returns-clause-statements : goal.returns-clause-statements
returns-clause-statements c = statements_all
