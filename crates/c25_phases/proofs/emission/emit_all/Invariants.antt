use Rattle.std.proofs.Common.{◌≡◌, drop, map}
use Rattle.c25_meaning_assembly.specs.Emission.{emit_all}
use Rattle.c25_phases.specs.View.{item_of}
use Rattle.c25_phases.proofs.emission.emit_all.Given as goal

abbrev pub invariant-loop-item : goal.invariant-loop-item
invariant-loop-item l = record {
  told : emit_all l.initial.symbols.entries l.sections (map item_of (drop l.item-index l.items)) ≡ emit_all l.initial.symbols.entries l.initial.sections (map item_of l.items);
  names : l.symbols.entries ≡ l.initial.symbols.entries;
}
