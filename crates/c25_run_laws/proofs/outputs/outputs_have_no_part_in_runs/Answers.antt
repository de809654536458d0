use Rattle.c25_run_laws.proofs.Fetched.{fetched_behind}
use Rattle.c25_run_laws.proofs.OutputRuns.{runs_behind}
use Rattle.c25_run_laws.proofs.outputs.outputs_have_no_part_in_runs.Goals as goal

pub returns-clause-runs : goal.returns-clause-runs
returns-clause-runs c = runs_behind

pub returns-clause-fetched : goal.returns-clause-fetched
returns-clause-fetched c = fetched_behind
