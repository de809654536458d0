-- one of the operands that are left reaches the words where one of all does
use Rattle.std.proofs.Common.{◌≡◌, drop}
use Rattle.std.specs.List.{list_any}
use Rattle.c25_warnings.specs.Data.{reaches}
use Rattle.c25_warnings.proofs.data.any_reaches.Given as goal

abbrev pub invariant-loop-relocation : goal.invariant-loop-relocation
invariant-loop-relocation l = list_any (reaches l.section l.place l.end) (drop l.relocation-index l.relocations) ≡ list_any (reaches l.section l.place l.end) l.relocations
