use Rattle.c25_run_laws.proofs.Image.{runs_alike, statements_stay}
use Rattle.c25_run_laws.proofs.runs.image_runs_as_statements.Goals as goal

pub returns-clause-runs : goal.returns-clause-runs
returns-clause-runs c = runs_alike

pub returns-clause-words : goal.returns-clause-words
returns-clause-words c = statements_stay
