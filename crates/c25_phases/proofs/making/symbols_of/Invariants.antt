use Rattle.std.proofs.Common.{◌≡◌, ◌++◌, map, drop}
use Rattle.c25_meaning_assembly.specs.Emission.{symbol_of}
use Rattle.c25_module.specs.View.{symbols_data}
use Rattle.c25_phases.proofs.making.symbols_of.Given as goal

abbrev pub invariant-loop-number : goal.invariant-loop-number
invariant-loop-number l = symbols_data l.all.items ++ map (symbol_of l.exported) (drop l.number l.symbols.entries) ≡ map (symbol_of l.exported) l.symbols.entries
