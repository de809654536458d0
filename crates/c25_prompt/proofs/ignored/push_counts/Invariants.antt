-- the lines so far
use Rattle.std.proofs.Common.{◌≡◌, ◌++◌, take, string_bytes}
use Rattle.c25_prompt.specs.Ignored.{counts_text}
use Rattle.c25_prompt.proofs.ignored.push_counts.Given as goal

abbrev pub invariant-loop-address : goal.invariant-loop-address
invariant-loop-address l = string_bytes l.text ≡ string_bytes l.fn.text ++ counts_text (take l.address-index l.breaks) l.ignores
