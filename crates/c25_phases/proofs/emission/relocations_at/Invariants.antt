use Rattle.std.proofs.Common.{◌≡◌, ◌++◌, drop, map}
use Rattle.c25_meaning_assembly.specs.Addresses.{relocation_at}
use Rattle.c25_phases.proofs.emission.relocations_at.Given as goal

abbrev pub invariant-loop-address : goal.invariant-loop-address
invariant-loop-address l = l.relocations.items ++ map (relocation_at l.target l.section l.offset) (drop l.address-index l.addresses) ≡ map (relocation_at l.target l.section l.offset) l.addresses
