use Rattle.std.proofs.Common.{◌≡◌, ◌++◌, drop, string_bytes}
use Rattle.c25_meaning_processor.specs.RunText.{outputs_text}
use Rattle.c25_chain.proofs.output.push_outputs.Given as goal

abbrev pub invariant-loop-port : goal.invariant-loop-port
invariant-loop-port l = string_bytes l.out ++ outputs_text (drop l.port-index l.outputs) ≡ string_bytes l.initial.out ++ outputs_text l.outputs
