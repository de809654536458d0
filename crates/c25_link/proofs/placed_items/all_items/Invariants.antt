-- the items of the modules so far stand there
use Rattle.std.proofs.Common.{◌≡◌, take}
use Rattle.c25_meaning_linking.specs.Place.{by_modules}
use Rattle.c25_link.specs.Layout.{places_in}
use Rattle.c25_link.proofs.placed_items.all_items.Given as goal

abbrev pub invariant-loop-number : goal.invariant-loop-number
invariant-loop-number g l = l.items.items ≡ by_modules (g.T.PlacedItem.of_module l.layout.modules.now (places_in l.layout)) 0 (take l.number l.layout.modules.now)
