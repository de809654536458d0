use Rattle.c25_explain.proofs.Below.{not_alike}
use Rattle.c25_explain.proofs.explanation.explanation_alike.Goals as goal

pub returns-else-eq_ignore_ascii_case : goal.returns-else-eq_ignore_ascii_case
returns-else-eq_ignore_ascii_case c =
    not_alike c.args.number c.args.name.now c.in_ok-explanation.explanation c.eq_ignore_ascii_case.result c.in_ok-explanation.ensures c.eq_ignore_ascii_case.ensures.test c.if-eq_ignore_ascii_case.false
