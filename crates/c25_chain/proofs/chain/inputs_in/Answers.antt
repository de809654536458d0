use Rattle.c25_chain.proofs.Answered.{both_read, inputs_told_on, no_samples, no_schedule}
use Rattle.c25_chain.specs.Chain.{inputs_of}
use Rattle.c25_chain.proofs.chain.inputs_in.Goals as goal

pub returns-in_err-samples : goal.returns-in_err-samples
returns-in_err-samples c =
    inputs_told_on (inputs_of c.args.samples.now c.args.schedule.now) c.from_residual.result c.in_err-samples.field-0.0 c.from_residual.ensures.1
    (no_samples c.args.samples.now c.args.schedule.now c.in_err-samples.field-0.0 c.in_err-samples.ensures)

pub returns-in-Ok : goal.returns-in-Ok
returns-in-Ok c = both_read c.args.samples.now c.args.schedule.now c.in_ok-samples.samples c.in-Ok.schedule c.in_ok-samples.ensures c.in-Ok.ensures

pub returns-in-Err : goal.returns-in-Err
returns-in-Err c = no_schedule c.args.samples.now c.args.schedule.now c.in_ok-samples.samples c.in-Err.refusal c.in_ok-samples.ensures c.in-Err.ensures
