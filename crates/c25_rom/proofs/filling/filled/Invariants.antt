use Rattle.c25_rom.proofs.Filled.{IsFilled}
use Rattle.c25_rom.proofs.filling.filled.Given as goal

abbrev pub invariant-loop-address : goal.invariant-loop-address
invariant-loop-address l = IsFilled l.words l.size l.fill l.address-iterator l.rom.items
