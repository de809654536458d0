use Rattle.std.proofs.Common.{List, ap, refl, sym, ◌∙◌}
use Rattle.c25_meaning_linking.specs.GoodMap.{unlisted_request}
use Rattle.c25_link_faults.specs.Faults.{lacks_range}
use Rattle.c25_link_faults.specs.View.{ranges_view}
use Rattle.c25_link_faults.specs.declared.ranges.Range.{Range}
use Rattle.c25_link_faults.proofs.lacking.Sections.is_lacking_unlisted.Goals as goal

pub returns : goal.returns
returns c = λ modules has.
    c.lacks_range.ensures (unlisted_request modules c.args.name.now) refl refl (sym (c.is_initialised-initialised.ensures modules has))
    ∙ ap (λ (rs : List Range). lacks_range (ranges_view rs) (unlisted_request modules c.args.name.now)) c.deref.ensures.value
