use Rattle.std.proofs.Common.{◌≡◌, ◌++◌, drop}
use Rattle.std.specs.List.{flat_map}
use Rattle.c25_place.specs.View.{places_view}
use Rattle.c25_warnings.specs.Linking.{of_place}
use Rattle.c25_warnings.specs.View.{link_warnings_view}
use Rattle.c25_warnings.proofs.linking.add_reserved.Given as goal

abbrev pub invariant-loop-place : goal.invariant-loop-place
invariant-loop-place l =
    link_warnings_view l.warnings.items ++ flat_map (of_place l.modules) (places_view (drop l.place-index l.places))
    ≡ link_warnings_view l.initial.warnings.items ++ flat_map (of_place l.modules) (places_view l.places)
