use Rattle.std.proofs.Common.{◌≡◌, ◌++◌, drop, map}
use Rattle.c25_meaning_assembly.specs.AllFaults.{item_faults}
use Rattle.c25_phases.specs.View.{fault_of, item_of}
use Rattle.c25_phases.proofs.wrong.faults_among.Given as goal

abbrev pub invariant-loop-item : goal.invariant-loop-item
invariant-loop-item l = record {
  told : map fault_of l.faults.items ++ item_faults l.initial.symbols.entries l.sections (map item_of (drop l.item-index l.items)) ≡ item_faults l.initial.symbols.entries l.initial.sections (map item_of l.items);
  names : l.symbols.entries ≡ l.initial.symbols.entries;
}
