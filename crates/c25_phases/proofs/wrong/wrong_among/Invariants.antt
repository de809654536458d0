use Rattle.std.proofs.Common.{◌≡◌, drop, map}
use Rattle.c25_phases.specs.View.{item_of}
use Rattle.c25_phases.specs.Wrong.{wrong_from}
use Rattle.c25_phases.proofs.wrong.wrong_among.Given as goal

abbrev pub invariant-loop-item : goal.invariant-loop-item
invariant-loop-item l = record {
  told : wrong_from l.number l.initial.symbols.entries l.sections (map item_of (drop l.item-index l.items)) ≡ wrong_from 0 l.initial.symbols.entries l.initial.sections (map item_of l.items);
  names : l.symbols.entries ≡ l.initial.symbols.entries;
  counted : l.number ≡ l.item-index;
}
