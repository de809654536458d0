use Rattle.std.proofs.Common.{◌≡◌, drop}
use Rattle.std.specs.List.{list_all}
use Rattle.c25_meaning_assembly.specs.Emission.{is_here}
use Rattle.c25_phases.specs.Names.{bytes_of_names}
use Rattle.c25_phases.proofs.emission.are_here.Given as goal

abbrev pub invariant-loop-name : goal.invariant-loop-name
invariant-loop-name l = list_all (is_here l.symbols.entries) (bytes_of_names (drop l.name-index l.names)) ≡ list_all (is_here l.symbols.entries) (bytes_of_names l.names)
