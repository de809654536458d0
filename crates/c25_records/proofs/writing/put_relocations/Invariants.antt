use Rattle.std.proofs.Common.{◌≡◌, ◌++◌, take}
use Rattle.std.specs.List.{flat_map}
use Rattle.c25_meaning_objects.specs.Records.{relocation_entry}
use Rattle.c25_records.proofs.writing.put_relocations.Given as goal

abbrev pub invariant-loop-relocation : goal.invariant-loop-relocation
invariant-loop-relocation l = l.out.items ≡ l.fn.out.items ++ flat_map relocation_entry (take l.relocation-index l.relocations)
