use Rattle.std.proofs.Common.{[], subst, sym, take}
use Rattle.c25_cmd.specs.View.{placings_of}
use Rattle.c25_link_faults.specs.View.{HasFirst, placing_names}
use Rattle.c25_link_faults.proofs.More.{placings_next}
use Rattle.c25_link_faults.proofs.sections.listed_names.Goals as goal

pub loop-placing-preserved : goal.loop-placing-preserved
loop-placing-preserved c =
    let ps = c.args.placings.now in
    let i = c.loop-placing.placing-index in
    let next = placings_next ps i c.placing-item.result c.as_str.result.now c.loop-placing-test.true c.placing-item.is c.as_str.ensures.value in
    subst (λ before. HasFirst c.pass.new.self before []) (sym next) (c.in_ok-pass.ensures (placing_names (placings_of (take i ps))) c.loop-placing.invariant)
