use Rattle.std.proofs.Common.{[], ap, subst, sym, take, ◌∙◌}
use Rattle.c25_link_faults.specs.Faults.{names_again}
use Rattle.c25_link_faults.specs.View.{HasFirst, definitions_view, names_of}
use Rattle.c25_link_faults.proofs.More.{names_next}
use Rattle.c25_link_faults.proofs.Twice.{again_next}
use Rattle.c25_link_faults.proofs.definitions.defined_twice.Goals as goal

pub loop-definition-preserved : goal.loop-definition-preserved
loop-definition-preserved c =
    let ds = c.args.list.now in
    let i = c.loop-definition.definition-index in
    let names = names_of (definitions_view (take i ds)) in
    let next = names_next ds i c.definition-item.result c.as_str.result.now c.loop-definition-test.true c.definition-item.is c.as_str.ensures.value in
    let is = c.loop-definition.invariant in (
      subst (HasFirst c.add_again.new.seen []) (sym next) (c.in_ok-add_again.ensures.seen names is.0),
      subst (HasFirst c.add_again.new.twice []) (sym (ap (names_again []) next ∙ again_next names c.as_str.result.now)) (c.in_ok-add_again.ensures.twice names (names_again [] names) is.0 is.1),
    )
