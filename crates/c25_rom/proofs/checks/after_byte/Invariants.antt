use Rattle.std.proofs.Common.{◌≡◌}
use Rattle.std.specs.Prelude.{bit_xor}
use Rattle.c25_rom.specs.Checks.{after_bits}
use Rattle.c25_rom.proofs.checks.after_byte.Given as goal

abbrev pub invariant-loop : goal.invariant-loop
invariant-loop l = l.after ≡ after_bits l.counter (bit_xor l.fn.remainder l.fn.byte)
