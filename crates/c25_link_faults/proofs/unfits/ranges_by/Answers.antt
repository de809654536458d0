use Rattle.std.proofs.Common.{map}
use Rattle.std.proofs.lemmas.Result.{IfOk-weaker}
use Rattle.c25_cmd.specs.View.{target_of}
use Rattle.c25_link_faults.specs.Overlaps.{span_data}
use Rattle.c25_link_faults.specs.View.{ranges_view}
use Rattle.c25_link_faults.proofs.Usable.{spans_by}
use Rattle.c25_link_faults.proofs.unfits.ranges_by.Goals as goal

pub returns : goal.returns
returns c = λ r target page initialised.
    IfOk-weaker c.usable.result _ _
    (λ list is. spans_by (ranges_view c.args.ranges.now) (target_of c.args.target.now) c.page_for-page.result r (map span_data list.items) target (c.page_for-page.ensures r target page initialised) is) c.usable.ensures
