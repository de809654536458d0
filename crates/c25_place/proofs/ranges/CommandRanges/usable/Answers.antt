use Rattle.std.proofs.Common.{filter, ap, sym, ◌∙◌}
use Rattle.c25_meaning_linking.specs.GoodMap.{is_usable}
use Rattle.c25_place.specs.View.{wanted_view}
use Rattle.c25_place.specs.declared.requests.Wanted.{Wanted}
use Rattle.c25_place.proofs.ranges.CommandRanges.usable.Goals as goal

pub returns-in-InRange : goal.returns-in-InRange
returns-in-InRange c = λ all known.
    c.one_range.ensures c.args.page all (c.on_page-ranges.ensures all known) known.apart ∙ ap (λ (w : Wanted). filter (is_usable (wanted_view w) c.args.page) all) (sym c.in-InRange.is)
