-- the section fits in no range so far
use Rattle.std.proofs.Common.{ℕ, List, All, take}
use Rattle.c25_meaning_linking.specs.GoodMap.{NoneFits}
use Rattle.c25_meaning_linking.specs.Place as place
use Rattle.c25_place.specs.Blocks.{KnowsFits}
use Rattle.c25_place.specs.Room.{KnowsTaken}
use Rattle.c25_place.specs.View.{ranges_view}
use Rattle.c25_place.proofs.placement.first_fit.Given as goal

abbrev pub invariant-loop-range : goal.invariant-loop-range
invariant-loop-range l = (page : ℕ) (places : List place.Place) (blocks : List place.BlockData) → KnowsTaken l.taken page places → KnowsFits l.fits blocks → All (NoneFits page l.size blocks places) (ranges_view (take l.range-index l.ranges))
