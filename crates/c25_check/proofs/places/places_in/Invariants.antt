use Rattle.std.proofs.Common.{◌≡◌, map, take}
use Rattle.c25_map.specs.View.{section_data}
use Rattle.c25_place.specs.View.{places_view}
use Rattle.c25_check.proofs.places.places_in.Given as goal

abbrev pub invariant-loop-section : goal.invariant-loop-section
invariant-loop-section l = places_view l.places.items ≡ map (λ s. s.place) (map section_data (take l.section-index l.section-items))
