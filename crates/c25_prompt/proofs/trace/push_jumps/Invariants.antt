use Rattle.std.proofs.Common.{◌≡◌, ◌++◌, take, string_bytes}
use Rattle.c25_prompt_texts.specs.Jumps.{jumps_text}
use Rattle.c25_prompt.proofs.trace.push_jumps.Given as goal

abbrev pub invariant-loop-jump : goal.invariant-loop-jump
invariant-loop-jump l = string_bytes l.text ≡ string_bytes l.fn.text ++ jumps_text l.image (take l.jump-index l.jumps)
