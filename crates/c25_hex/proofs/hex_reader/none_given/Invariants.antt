use Rattle.std.proofs.Common.{◌≡◌, replicate, None}
use Rattle.c25_hex.proofs.hex_reader.none_given.Given as goal

abbrev pub invariant-loop : goal.invariant-loop
invariant-loop l = l.bytes.items ≡ replicate l.counter None
