use Rattle.std.proofs.Common.{List, map, ap, ◌∙◌}
use Rattle.std.proofs.lemmas.List.{take_all}
use Rattle.c25_meaning_linking.specs.Linking.{section_place}
use Rattle.c25_link.specs.Layout.{places_in}
use Rattle.c25_place.specs.View.{places_view}
use Rattle.c25_place.specs.declared.placement.Place.{Place}
use Rattle.c25_link.proofs.described.described_sections.Goals as goal

pub returns : goal.returns
returns c =
    let placed = section_place c.args.layout.now.modules.now (places_in c.args.layout.now) in
    c.loop-place.invariant ∙ ap (λ (ps : List Place). map placed (places_view ps)) (take_all c.loop-place.place-index c.args.layout.now.places.now c.loop-place-test.false)
