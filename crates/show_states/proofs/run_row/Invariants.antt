use Rattle.std.proofs.Common.{◌≤◌}
use Rattle.show_states.proofs.run_row.Given as goal

abbrev pub invariant-loop-number : goal.invariant-loop-number
invariant-loop-number g l = l.ran ≤ l.number
