use Rattle.std.proofs.Common.{◌<◌, ◌≤◌, length, map, string_bytes, arith}
use Rattle.std.proofs.lemmas.Bool.Decides.{nat_tests}
use Rattle.c25_explain.specs.Again.{notes_view}
use Rattle.c25_explain.proofs.ShownLinks.{few_shown, many_shown}
use Rattle.c25_explain.proofs.link_faults.push_shown.Goals as goal

pub returns-in_ok-push_faults : goal.returns-in_ok-push_faults
returns-in_ok-push_faults c =
    let many : 99 < length c.args.faults.now = grind (arith, nat_tests) in
    many_shown c.push_more.result c.args.among.explain (map string_bytes c.args.among.names.now) c.args.among.modules.now c.args.faults.now c.split_at.result.0.now
    (notes_view c.args.notes.now.items) (notes_view c.push_faults.new.notes.items) (notes_view c.push_more.new.notes.items)
    many c.split_at.ensures.front c.in_ok-push_faults.ensures c.push_more.ensures

pub returns-else-faults-gt-MOST_OTHERS : goal.returns-else-faults-gt-MOST_OTHERS
returns-else-faults-gt-MOST_OTHERS c =
    let few : length c.args.faults.now ≤ 99 = grind (arith, nat_tests) in
    few_shown c.push_faults-else-faults-gt-MOST_OTHERS.result c.args.among.explain (map string_bytes c.args.among.names.now) c.args.among.modules.now c.args.faults.now
    (notes_view c.args.notes.now.items) (notes_view c.push_faults-else-faults-gt-MOST_OTHERS.new.notes.items)
    few c.push_faults-else-faults-gt-MOST_OTHERS.ensures
