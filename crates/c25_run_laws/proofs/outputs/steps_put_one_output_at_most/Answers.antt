use Rattle.c25_run_laws.proofs.Few.{runs_grow}
use Rattle.c25_run_laws.proofs.outputs.steps_put_one_output_at_most.Goals as goal

pub returns : goal.returns
returns c = runs_grow
