-- What is made of a reversed list.
use Rattle.std.proofs.Common.{◌≡◌, List, map, reverse, sym}
use Rattle.indexmap.proofs.ReorderLemmas.{map-reverse}

-- a list may be reversed before or after a function is applied to its elements
pub map_reverse : {X Y : Type 0} (f : X → Y) (xs : List X) → reverse (map f xs) ≡ map f (reverse xs)
map_reverse f xs = sym (map-reverse f xs)
