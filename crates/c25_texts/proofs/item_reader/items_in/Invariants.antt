-- what is still read completes what was read
use Rattle.std.proofs.Common.{◌≡◌, ◌+◌, map, drop, []}
use Rattle.c25_meaning_common.specs.Items.{items}
use Rattle.c25_texts.proofs.item_reader.items_in.Given as goal

abbrev pub invariant-loop-index : goal.invariant-loop-index
invariant-loop-index g l =
    items g.F.LineFormat.item_of l.items.items (l.index + 1) (drop l.index (map (λ s. s.now) l.lines)) ≡ items g.F.LineFormat.item_of [] 1 (map (λ s. s.now) l.lines)
