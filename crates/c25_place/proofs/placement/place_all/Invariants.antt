-- the sections so far are placed
use Rattle.std.proofs.Common.{List, All, take}
use Rattle.c25_meaning_linking.specs.Command.{RangeData}
use Rattle.c25_meaning_objects.specs.Module.{Contents}
use Rattle.c25_meaning_linking.specs.GoodMap.{ArePlaced}
use Rattle.c25_place.specs.Blocks.{KnowsBlocks}
use Rattle.c25_place.specs.Placement.{IsWithin}
use Rattle.c25_place.specs.Ranges.{KnowsRanges}
use Rattle.c25_place.specs.Room.{KnowsRoom, KnowsRuns}
use Rattle.c25_place.specs.View.{requests_view, places_view}
use Rattle.c25_place.proofs.placement.place_all.Given as goal

abbrev pub invariant-loop-request : goal.invariant-loop-request
invariant-loop-request l = KnowsRoom l.placed.room (places_view l.placed.places.items)
    × KnowsRuns l.placed.runs (places_view l.placed.places.items)
    × ((all : List RangeData) (modules : List Contents) → KnowsRanges l.ranges all → KnowsBlocks l.blocks modules → ArePlaced all (requests_view modules (take l.request-index l.requests)) (places_view l.placed.places.items))
    × All IsWithin l.placed.places.items
