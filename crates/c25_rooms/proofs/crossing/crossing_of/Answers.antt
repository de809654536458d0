use Rattle.std.proofs.Common.{rules, ◌<◌, List, Option, ℕ, ap, arith, map, subst, sym, ◌∙◌}
use Rattle.std.specs.Option.{option_map}
use Rattle.std.proofs.lemmas.Grind.{common_steps}
use Rattle.std.proofs.lemmas.Result.{IfOk-weaker}
use Rattle.c25_link_faults.specs.Overlaps.{span_data}
use Rattle.c25_meaning_linking.specs.Place.{BlockData, blocks_of}
use Rattle.c25_place.specs.View.{places_view}
use Rattle.c25_rooms.specs.Crossings.{IsCrossingBy, IsCrossingOrNone, MayBegin, blocks_data, crossing_data}
use Rattle.c25_rooms.specs.declared.blocks.SectionBlock.{SectionBlock}
use Rattle.c25_rooms.proofs.crossing.crossing_of.Goals as goal

pub returns-in_ok-bases-in-Some : goal.returns-in_ok-bases-in-Some
returns-in_ok-bases-in-Some c =
    let places = places_view c.args.places.now in
    let ranges = map span_data c.args.unfit.now.ranges.items in
    let span = option_map span_data c.args.unfit.now.span in
    let size = c.in-Some.size in
    let blocks = blocks_of c.args.name.now c.args.modules.now in
    let are = ap (λ (bs : List SectionBlock). blocks_data bs) c.deref.ensures.value ∙ c.in_ok-blocks-in-Some.ensures in
    let sized : 0 < c.in-Some.size = first_of (search rules, grind (arith, common_steps)) in
    IfOk-weaker c.first_crossing.result _ _
    (λ found so. subst (λ (o : Option ℕ). IsCrossingBy o places ranges span blocks (option_map crossing_data found)) (sym c.in-Some.is)
    ((λ none. absurd (omega (arith, none, sized))), (λ some. subst (λ (bs : List BlockData). IsCrossingOrNone (MayBegin places ranges span size) bs (option_map crossing_data found)) are so)))
    (c.first_crossing.ensures places ranges span size c.in_ok-bases-in-Some.ensures)
