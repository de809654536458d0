use Rattle.std.proofs.Common.{◌≡◌, ◌++◌, drop}
use Rattle.std.specs.List.{flat_map}
use Rattle.c25_cmd.specs.View.{placings_of}
use Rattle.c25_warnings.specs.Linking.{of_placing}
use Rattle.c25_warnings.specs.View.{link_warnings_view}
use Rattle.c25_warnings.proofs.linking.add_absent.Given as goal

abbrev pub invariant-loop-placing : goal.invariant-loop-placing
invariant-loop-placing l =
    link_warnings_view l.warnings.items ++ flat_map (of_placing l.modules) (placings_of (drop l.placing-index l.placings))
    ≡ link_warnings_view l.initial.warnings.items ++ flat_map (of_placing l.modules) (placings_of l.placings)
