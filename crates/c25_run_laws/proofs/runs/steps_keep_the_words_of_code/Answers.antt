use Rattle.c25_run_laws.proofs.KeptRuns.{statements_keep, step_keeps, words_keep}
use Rattle.c25_run_laws.proofs.runs.steps_keep_the_words_of_code.Goals as goal

pub returns-clause-step : goal.returns-clause-step
returns-clause-step c = step_keeps

pub returns-clause-words : goal.returns-clause-words
returns-clause-words c = words_keep

pub returns-clause-statements : goal.returns-clause-statements
returns-clause-statements c = statements_keep
