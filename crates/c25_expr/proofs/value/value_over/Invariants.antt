-- the operands that wait are the values of the trees so far, and the items that are left find theirs
use Rattle.std.proofs.Common.{◌≡◌, ◌+◌, true, map, reverse, take, drop, Ok, length}
use Rattle.c25_meaning_language.specs.Value.{value_named}
use Rattle.c25_expr.specs.Postfix.{item_of, built, runs, is_room}
use Rattle.c25_expr.specs.Stack.{values_of}
use Rattle.c25_expr.proofs.value.value_over.Given as goal

abbrev pub invariant-loop-item : goal.invariant-loop-item
invariant-loop-item g l = record {
  valued : values_of (value_named l.symbols) l.symbols.here (built (reverse (map item_of (take l.item-index l.item-items)))) ≡ Ok (reverse l.waiting.items);
  left : runs (map item_of (drop l.item-index l.item-items)) (length l.waiting.items) ≡ true;
  room : is_room g.row.ROOM (length l.waiting.items + length (drop l.item-index l.item-items)) ≡ true;
}
