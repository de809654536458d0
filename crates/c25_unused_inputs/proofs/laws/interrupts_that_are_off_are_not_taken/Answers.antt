use Rattle.c25_unused_inputs.proofs.Off.{begun_is, run_off, step_off}
use Rattle.c25_unused_inputs.proofs.laws.interrupts_that_are_off_are_not_taken.Goals as goal

pub returns-clause-begun : goal.returns-clause-begun
returns-clause-begun c = begun_is

pub returns-clause-step : goal.returns-clause-step
returns-clause-step c = step_off

pub returns-clause-run : goal.returns-clause-run
returns-clause-run c = run_off
