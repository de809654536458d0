use Rattle.std.proofs.Common.{◌≡◌, ◌++◌, take, string_bytes}
use Rattle.c25_prompt_texts.specs.Outputs.{outputs_shown}
use Rattle.c25_prompt_texts.proofs.outputs.push_outputs.Given as goal

abbrev pub invariant-loop-output : goal.invariant-loop-output
invariant-loop-output l = string_bytes l.text ≡ string_bytes l.fn.text ++ outputs_shown (take l.output-index l.outputs)
