use Rattle.std.proofs.Common.{rules, ◌≡◌, ap, ◌∙◌}
use Rattle.std.specs.Option.{option_map, option_or}
use Rattle.c25_hints.specs.Remark.{remark_of}
use Rattle.c25_hints.proofs.Joined.{expressed, first_remark}
use Rattle.c25_hints.proofs.operands.of_expression.Goals as goal

pub returns-in-Some : goal.returns-in-Some
returns-in-Some c =
    let whole : c.or-in-Some.result ≡ option_or (option_or c.of_front.result c.of_second.result) c.of_last.result = search rules in
    ap (option_map remark_of) whole
    ∙ first_remark c.of_front.result c.of_second.result c.of_last.result _ _ _ c.of_front.ensures c.of_second.ensures c.of_last.ensures
    ∙ expressed c.args.operand.now c.in-Some.last.now c.in-Some.ensures.value
