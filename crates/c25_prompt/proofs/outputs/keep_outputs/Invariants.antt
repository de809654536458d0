-- the last of what was kept before and of the outputs so far
use Rattle.std.proofs.Common.{◌≡◌, ◌++◌, ◌≤◌, length, take}
use Rattle.c25_prompt.specs.Lasts.{last_of}
use Rattle.c25_prompt.specs.Outputs.{at_step}
use Rattle.c25_prompt.proofs.outputs.keep_outputs.Given as goal

abbrev pub invariant-loop-port : goal.invariant-loop-port
invariant-loop-port l =
    record {
      few : length l.kept.items ≤ l.most;
      kept : l.kept.items ≡ last_of l.most (l.fn.kept.items ++ at_step l.steps (take l.port-index l.outputs));
    }
