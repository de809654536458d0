use Rattle.c25_run_laws.proofs.InB0.{plainly_steps, fetched_plainly}
use Rattle.c25_run_laws.proofs.runs.programs_outside_b0_step_plainly.Goals as goal

pub returns-clause-statements : goal.returns-clause-statements
returns-clause-statements c = plainly_steps

pub returns-clause-words : goal.returns-clause-words
returns-clause-words c = fetched_plainly
