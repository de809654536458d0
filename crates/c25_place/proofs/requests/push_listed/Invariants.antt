-- the listed sections so far stand there
use Rattle.std.proofs.Common.{◌≡◌, ◌++◌, List, take, map, filter}
use Rattle.c25_cmd.specs.View.{placings_of}
use Rattle.c25_meaning_linking.specs.GoodMap.{listed_request}
use Rattle.c25_meaning_objects.specs.Module.{Contents}
use Rattle.c25_meaning_linking.specs.Place.{all_sections}
use Rattle.c25_place.specs.Outputs.{KnowsOutputs}
use Rattle.c25_place.specs.Requests.{is_due, HasPages}
use Rattle.c25_place.specs.View.{requests_view}
use Rattle.c25_place.proofs.requests.push_listed.Given as goal

abbrev pub invariant-loop-placing : goal.invariant-loop-placing
invariant-loop-placing l = ((modules : List Contents) → KnowsOutputs l.outputs (all_sections modules)
    → requests_view modules l.requests.items ≡ requests_view modules l.fn.requests.items ++ map (listed_request modules) (filter (is_due l.with_address modules) (placings_of (take l.placing-index l.placings))))
    × HasPages l.requests.items
