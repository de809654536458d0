use Rattle.std.proofs.Common.{◌≡◌}
use Rattle.c25_rom.specs.Rom.{first_past}
use Rattle.c25_rom.proofs.Entries.{past}
use Rattle.c25_rom.proofs.filling.first_past.Given as goal

abbrev pub invariant-loop-address : goal.invariant-loop-address
invariant-loop-address l = past l.size l.address-iterator ≡ first_past l.words l.size
