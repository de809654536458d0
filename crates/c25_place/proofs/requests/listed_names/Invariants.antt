-- the names so far are those of the listed sections so far
use Rattle.std.proofs.Common.{map, take}
use Rattle.c25_cmd.specs.View.{placings_of}
use Rattle.c25_meaning_linking.specs.Command.{PlacingData}
use Rattle.c25_place.specs.Requests.{HasNames}
use Rattle.c25_place.proofs.requests.listed_names.Given as goal

abbrev pub invariant-loop-placing : goal.invariant-loop-placing
invariant-loop-placing l = HasNames l.names (map (λ (p : PlacingData). p.name) (placings_of (take l.placing-index l.placings)))
