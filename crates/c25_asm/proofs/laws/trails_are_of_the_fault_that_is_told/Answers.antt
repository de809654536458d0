use Rattle.c25_asm.proofs.Refusals.{refused}
use Rattle.c25_asm.proofs.laws.trails_are_of_the_fault_that_is_told.Goals as goal

pub returns : goal.returns
returns c = refused
