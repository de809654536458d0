-- the first step of the entries so far
use Rattle.std.proofs.Common.{◌≡◌, None, take}
use Rattle.std.specs.List.{fold}
use Rattle.c25_unused_inputs.specs.Requests.{sooner}
use Rattle.c25_unused_inputs.proofs.requests.next_step.Given as goal

abbrev pub invariant-loop-entry : goal.invariant-loop-entry
invariant-loop-entry l = l.found ≡ fold (sooner l.bit l.from) None (take l.entry-index l.entries)
