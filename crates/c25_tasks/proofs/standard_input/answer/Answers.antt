use Rattle.std.proofs.Common.{rules, refl, inr}
use Rattle.c25_meaning_common.specs.declared.failure.Failure.TheVariants as failure
use Rattle.c25_tasks.proofs.Gathered.{input_short, input_told}
use Rattle.c25_tasks.proofs.standard_input.answer.Goals as goal

pub returns-in_err-place-in-Err-Fault : goal.returns-in_err-place-in-Err-Fault
returns-in_err-place-in-Err-Fault g c = input_told _ _ _ c.from_residual.ensures.1

pub returns-in-Err-NoMemory : goal.returns-in-Err-NoMemory
returns-in-Err-NoMemory g c = input_short _ _ _ (search rules)

pub returns-in_ok-place-in-Err-Fault : goal.returns-in_ok-place-in-Err-Fault
returns-in_ok-place-in-Err-Fault g c = inr (failure.Fault _, (search rules, refl), refl)
