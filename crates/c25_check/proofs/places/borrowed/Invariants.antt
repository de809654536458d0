use Rattle.std.proofs.Common.{◌≡◌, map, string_bytes, take}
use Rattle.c25_check.proofs.places.borrowed.Given as goal

abbrev pub invariant-loop-text : goal.invariant-loop-text
invariant-loop-text l = map (λ n. n.now) l.names.items ≡ map string_bytes (take l.text-index l.texts)
