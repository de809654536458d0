use Rattle.std.proofs.Common.{◌≡◌, ◌+◌, drop, map, string_bytes}
use Rattle.c25_options.specs.Arranged.{flags_in_front}
use Rattle.c25_options.proofs.arranged.flags_in_front.Given as goal

abbrev pub invariant-loop-argument : goal.invariant-loop-argument
invariant-loop-argument l = (l.count + flags_in_front (map string_bytes (drop l.argument-index l.arguments)) ≡ flags_in_front (map string_bytes l.arguments)) × (l.count ≡ l.argument-index)
