use Rattle.std.proofs.Common.{◌≡◌, take}
use Rattle.c25_meaning_assembly.specs.Emission.{names_with}
use Rattle.c25_phases.proofs.emission.import_all.Given as goal

abbrev pub invariant-loop-number : goal.invariant-loop-number
invariant-loop-number l = l.symbols.entries ≡ names_with l.initial.symbols.entries (take l.number l.declared)
