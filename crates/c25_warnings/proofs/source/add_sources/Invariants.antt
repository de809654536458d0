use Rattle.std.proofs.Common.{◌≡◌, drop, map}
use Rattle.c25_place.specs.View.{places_view}
use Rattle.c25_warnings.specs.Warnings.{each_once, of_sources}
use Rattle.c25_warnings.proofs.source.add_sources.Given as goal

abbrev pub invariant-loop-number : goal.invariant-loop-number
invariant-loop-number l =
    each_once l.reports (of_sources l.files (map (λ n. n.now) (drop l.number l.names)) (drop l.number l.linked.modules.now) (places_view l.linked.places.now))
    ≡ each_once l.initial.reports (of_sources l.files (map (λ n. n.now) l.names) l.linked.modules.now (places_view l.linked.places.now))
