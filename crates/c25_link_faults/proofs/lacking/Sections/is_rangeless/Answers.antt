use Rattle.std.proofs.Common.{List, ap, refl, sym, ◌∙◌}
use Rattle.c25_cmd.specs.View.{placing_of}
use Rattle.c25_meaning_linking.specs.GoodMap.{listed_request}
use Rattle.c25_meaning_linking.specs.Place.{is_initialised}
use Rattle.c25_link_faults.specs.Faults.{lacks_range}
use Rattle.c25_link_faults.specs.View.{ranges_view}
use Rattle.c25_link_faults.specs.declared.ranges.Range.{Range}
use Rattle.c25_link_faults.proofs.lacking.Sections.is_rangeless.Goals as goal

pub returns : goal.returns
returns c = λ modules has.
    let p = placing_of c.args.placing.now in
    let named = ap (λ n. is_initialised n modules) c.as_str.ensures.value in
    c.lacks_range.ensures (listed_request modules p) refl refl (sym (c.is_initialised-initialised.ensures modules has ∙ named))
    ∙ ap (λ (rs : List Range). lacks_range (ranges_view rs) (listed_request modules p)) c.deref.ensures.value
