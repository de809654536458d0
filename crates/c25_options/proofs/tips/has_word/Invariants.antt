use Rattle.std.proofs.Common.{◌≡◌, drop, map, string_bytes}
use Rattle.c25_options.specs.Tips.{has_word}
use Rattle.c25_options.proofs.tips.has_word.Given as goal

abbrev pub invariant-loop-argument : goal.invariant-loop-argument
invariant-loop-argument l = has_word l.wanted (map string_bytes (drop l.argument-index l.arguments)) ≡ has_word l.wanted (map string_bytes l.arguments)
