-- each name so far has the first of its places
use Rattle.std.proofs.Common.{◌≡◌, ℕ, List, [], take}
use Rattle.std.specs.Option.{option_map}
use Rattle.c25_meaning_linking.specs.Place.{place_named}
use Rattle.c25_link.specs.Bases.{next_part}
use Rattle.c25_place.specs.View.{named, places_view}
use Rattle.c25_link.proofs.bases.first_parts.Given as goal

abbrev pub invariant-loop-place : goal.invariant-loop-place
invariant-loop-place l = (name : List ℕ) → named l.found name ≡ option_map (next_part []) (place_named name (places_view (take l.place-index l.places)))
