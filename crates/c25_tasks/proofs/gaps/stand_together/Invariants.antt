-- whether the words that are left go on as those before them
use Rattle.std.proofs.Common.{◌≡◌}
use Rattle.std.specs.FinMap as map
use Rattle.c25_tasks.specs.Disassembly.{stand_from}
use Rattle.c25_tasks.proofs.gaps.stand_together.Given as goal

abbrev pub invariant-loop-address : goal.invariant-loop-address
invariant-loop-address l = stand_from l.next l.address-iterator ≡ stand_from 0 (map.entries l.words)
