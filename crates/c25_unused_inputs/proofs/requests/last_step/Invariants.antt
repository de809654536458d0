-- the last step of the entries so far
use Rattle.std.proofs.Common.{◌≡◌, None, take}
use Rattle.std.specs.List.{fold}
use Rattle.c25_unused_inputs.specs.Requests.{later}
use Rattle.c25_unused_inputs.proofs.requests.last_step.Given as goal

abbrev pub invariant-loop-entry : goal.invariant-loop-entry
invariant-loop-entry l = l.found ≡ fold (later l.bit l.below) None (take l.entry-index l.entries)
