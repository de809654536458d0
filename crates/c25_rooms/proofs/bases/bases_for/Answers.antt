use Rattle.std.proofs.Common.{List, Option, ap, map, subst, sym, ◌∙◌}
use Rattle.std.specs.Option.{option_map}
use Rattle.std.proofs.lemmas.Result.{IfOk-weaker}
use Rattle.c25_link_faults.specs.Overlaps.{span_data}
use Rattle.c25_link_faults.specs.declared.spans.Span.{Span}
use Rattle.c25_place.specs.View.{places_view}
use Rattle.c25_rooms.specs.Bases.{AreTried, bases_at}
use Rattle.c25_rooms.specs.Crossings.{MayBegin}
use Rattle.c25_rooms.proofs.Tried.{tried_at}
use Rattle.c25_rooms.proofs.bases.bases_for.Goals as goal

pub returns-in-Some : goal.returns-in-Some
returns-in-Some c =
    let places = places_view c.args.places.now in
    let ranges = map span_data c.args.unfit.now.ranges.items in
    let s = span_data c.in-Some.span in
    IfOk-weaker c.base_at.result _ _
    (λ list is. subst (λ (o : Option Span). AreTried (MayBegin places ranges (option_map span_data o) c.args.size) list.items) (sym c.in-Some.is)
    (tried_at places ranges s c.args.size list.items (is ∙ ap (λ (xs : List Span). bases_at s (map span_data xs)) c.deref.ensures.value)))
    c.base_at.ensures
