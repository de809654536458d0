-- the lines of the ports so far
use Rattle.std.proofs.Common.{◌≡◌, ◌++◌, string_bytes}
use Rattle.c25_prompt_texts.specs.Inputs.{inputs_below}
use Rattle.c25_prompt_texts.proofs.inputs.push_inputs.Given as goal

abbrev pub invariant-loop-port : goal.invariant-loop-port
invariant-loop-port l = string_bytes l.text ≡ string_bytes l.fn.text ++ inputs_below l.left l.port
