use Rattle.std.proofs.Common.{◌≡◌, ◌+◌, ◌*◌, ◌≤◌, ◌++◌, drop}
use Rattle.arrayvec.specs.ArrayVec.{array_vec_len}
use Rattle.c25_run.specs.Timed.{at_step, timed_text}
use Rattle.c25_run.proofs.lines.push_outputs.Given as goal

abbrev pub invariant-loop-port : goal.invariant-loop-port
invariant-loop-port l =
    (l.lines.items ++ timed_text (at_step l.step (drop l.port-index l.outputs)) ≡ l.fn.lines.items ++ timed_text (at_step l.step l.outputs))
    × (array_vec_len l.lines ≤ array_vec_len l.fn.lines + 22 * l.port-index)
