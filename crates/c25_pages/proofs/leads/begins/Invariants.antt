-- the callee is not the program itself
use Rattle.std.proofs.Common.{◌≤◌}
use Rattle.c25_pages.proofs.leads.begins.Given as goal

abbrev pub invariant-loop-callee : goal.invariant-loop-callee
invariant-loop-callee l = 1 ≤ l.callee
