use Rattle.std.proofs.Common.{List, subst, sym, take}
use Rattle.c25_meaning_linking.specs.Place.{Place}
use Rattle.c25_place.proofs.Listed.{mapped_more}
use Rattle.c25_place.specs.Room.{KnowsTaken}
use Rattle.c25_place.specs.View.{place_view, places_view}
use Rattle.c25_rooms.proofs.marks.take_places.Goals as goal

pub loop-section-preserved : goal.loop-section-preserved
loop-section-preserved c =
    let i = c.loop-section.section-index in
    subst (λ (ps : List Place). KnowsTaken c.take_place.new.taken c.args.page ps) (sym (mapped_more place_view c.args.places.now i _ c.loop-section-test.true))
    (c.take_place.ensures.taken (places_view (take i c.args.places.now)) c.loop-section.invariant)
