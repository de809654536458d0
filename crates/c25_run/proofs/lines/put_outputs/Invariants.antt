use Rattle.std.proofs.Common.{◌≡◌, ◌*◌, ◌≤◌, ◌++◌, drop}
use Rattle.arrayvec.specs.ArrayVec.{array_vec_len}
use Rattle.c25_meaning_processor.specs.RunText.{outputs_text}
use Rattle.c25_run.proofs.lines.put_outputs.Given as goal

abbrev pub invariant-loop-port : goal.invariant-loop-port
invariant-loop-port l = (l.lines.items ++ outputs_text (drop l.port-index l.outputs) ≡ outputs_text l.outputs) × (array_vec_len l.lines ≤ 11 * l.port-index)
