-- the names so far are listed
use Rattle.std.proofs.Common.{◌≡◌, take}
use Rattle.std.specs.List.{flat_map}
use Rattle.c25_buildable.specs.Places.{part_names, places_view}
use Rattle.c25_buildable.proofs.names.names_of.Given as goal

abbrev pub invariant-loop-part : goal.invariant-loop-part
invariant-loop-part l = places_view l.places.items ≡ flat_map part_names (take l.part-index l.parts)
