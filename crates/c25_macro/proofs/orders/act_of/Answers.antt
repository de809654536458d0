-- A fault among the operands is reported whatever would be asked with them.
use Rattle.std.proofs.lemmas.Result.{err_from_is_err_and}
use Rattle.c25_meaning_expansion.specs.Acts as acts
use Rattle.c25_macro.proofs.orders.act_of.Goals as goal

pub returns-in_err-condition_in-in-If : goal.returns-in_err-condition_in-in-If
unfolding acts.act_of
returns-in_err-condition_in-in-If c =
    let p = err_from_is_err_and c.from_residual.result c.from_residual.ensures.1 in
    rw (c.in-If.is, p.1, p.2) (c.in_err-condition_in-in-If.ensures acts.If)

pub returns-in_err-condition_in-in-ElseIf : goal.returns-in_err-condition_in-in-ElseIf
unfolding acts.act_of
returns-in_err-condition_in-in-ElseIf c =
    let p = err_from_is_err_and c.from_residual-in_err-condition_in-in-ElseIf.result c.from_residual-in_err-condition_in-in-ElseIf.ensures.1 in
    rw (c.in-ElseIf.is, p.1, p.2) (c.in_err-condition_in-in-ElseIf.ensures acts.ElseIf)

pub returns-in_err-option_in-in-Loop : goal.returns-in_err-option_in-in-Loop
unfolding acts.act_of
returns-in_err-option_in-in-Loop c =
    let p = err_from_is_err_and c.from_residual-in_err-option_in-in-Loop.result c.from_residual-in_err-option_in-in-Loop.ensures.1 in
    rw (c.in-Loop.is, p.1, p.2) (c.in_err-option_in-in-Loop.ensures acts.Loop)

pub returns-in_err-option_in-in-Break : goal.returns-in_err-option_in-in-Break
unfolding acts.act_of
returns-in_err-option_in-in-Break c =
    let p = err_from_is_err_and c.from_residual-in_err-option_in-in-Break.result c.from_residual-in_err-option_in-in-Break.ensures.1 in
    rw (c.in-Break.is, p.1, p.2) (c.in_err-option_in-in-Break.ensures acts.Break)
