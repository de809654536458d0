-- the names so far are appended
use Rattle.std.proofs.Common.{◌≡◌, ◌++◌, take}
use Rattle.std.specs.List.{flat_map}
use Rattle.c25_buildable.specs.Places.{places_view, row_names}
use Rattle.c25_buildable.proofs.names.push_part.Given as goal

abbrev pub invariant-loop-row : goal.invariant-loop-row
invariant-loop-row l = places_view l.places.items ≡ places_view l.fn.places.items ++ flat_map (row_names l.part) (take l.row-index l.part.rows.items)
