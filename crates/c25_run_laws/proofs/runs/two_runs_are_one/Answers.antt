use Rattle.c25_meaning_processor.specs.Statements.{statement_step}
use Rattle.c25_run_laws.proofs.Joined.{words_join, run_of_joined}
use Rattle.c25_run_laws.proofs.runs.two_runs_are_one.Goals as goal

pub returns-clause-words : goal.returns-clause-words
returns-clause-words c = words_join

pub returns-clause-statements : goal.returns-clause-statements
returns-clause-statements c = λ statements. run_of_joined (statement_step statements)
