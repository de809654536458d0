use Rattle.std.proofs.Common.{rules}
use Rattle.std.proofs.lemmas.Fn.{always_returns_same}
use Rattle.c25_pages.specs.declared.program.PlainStatement.{PlainStatement}
use Rattle.c25_pages.proofs.Ascending.{statement_found, statement_missing}
use Rattle.c25_pages.proofs.program.insn_found.Goals as goal

pub returns-in-Ok : goal.returns-in-Ok
returns-in-Ok c = λ ascend.
    statement_found c.args.statements.now c.args.address c.in-Ok.index _ ascend c.in-Ok.ensures.bound
    (c.in-Ok.ensures.position (λ (s : PlainStatement). s.address) (always_returns_same _ _ _ (λ a r f h. search rules)))

pub returns-in-Err : goal.returns-in-Err
returns-in-Err c = λ ascend.
    statement_missing c.args.statements.now c.args.address c.in-Err.field-0 ascend
    (c.in-Err.ensures.position (λ (s : PlainStatement). s.address) (always_returns_same _ _ _ (λ a r f h. search rules)))
