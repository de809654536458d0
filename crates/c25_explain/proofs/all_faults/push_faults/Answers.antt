use Rattle.std.proofs.Common.{◌<◌, ◌≤◌, length, arith}
use Rattle.std.proofs.lemmas.Bool.Decides.{nat_tests}
use Rattle.std.specs.String.{string_bytes}
use Rattle.c25_explain.proofs.ShownFaults.{few_shown, many_shown}
use Rattle.c25_explain.proofs.all_faults.push_faults.Goals as goal

pub returns-in_ok-push_lines : goal.returns-in_ok-push_lines
returns-in_ok-push_lines c =
    let many : 100 < length c.args.faults.now = grind (arith, nat_tests) in
    many_shown c.push_more.result c.args.name.now c.args.faults.now c.split_at.result.0.now (string_bytes c.args.text.now) (string_bytes c.push_lines.new.text) (string_bytes c.push_more.new.text)
    many c.split_at.ensures.front c.in_ok-push_lines.ensures c.push_more.ensures

pub returns-else-faults-gt-MOST : goal.returns-else-faults-gt-MOST
returns-else-faults-gt-MOST c =
    let few : length c.args.faults.now ≤ 100 = grind (arith, nat_tests) in
    few_shown c.push_lines-else-faults-gt-MOST.result c.args.name.now c.args.faults.now (string_bytes c.args.text.now) (string_bytes c.push_lines-else-faults-gt-MOST.new.text)
    few c.push_lines-else-faults-gt-MOST.ensures
