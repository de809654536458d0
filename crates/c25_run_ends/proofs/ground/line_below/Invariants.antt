-- there is none from here up to the address
use Rattle.std.proofs.Common.{◌≡◌, ◌≤◌}
use Rattle.c25_run_ends.specs.Ground.{line_below}
use Rattle.c25_run_ends.proofs.ground.line_below.Given as goal

abbrev pub invariant-loop-at : goal.invariant-loop-at
invariant-loop-at l = record {
  none : line_below l.image l.base l.at ≡ line_below l.image l.base l.address;
  within : l.at ≤ l.address;
}

abbrev pub decreases-loop-at : goal.decreases-loop-at
decreases-loop-at l = l.at
