-- the parts that are left become fewer
use Rattle.std.proofs.Common.{length}
use Rattle.c25_buildable.proofs.runs.+run_well.Given as goal

abbrev pub decreases-run_well : goal.decreases-run_well
decreases-run_well l = length l.parts.now
