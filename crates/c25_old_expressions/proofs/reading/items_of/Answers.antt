use Rattle.std.proofs.lemmas.Result.{err_from_is_err_and}
use Rattle.c25_old_expressions.specs.Reader.{state_of}
use Rattle.c25_old_expressions.proofs.Steps.{refused}
use Rattle.c25_old_expressions.proofs.reading.items_of.Goals as goal

pub returns-in_err-take : goal.returns-in_err-take
returns-in_err-take c =
    let p = err_from_is_err_and c.from_residual.result c.from_residual.ensures.1 in
    rw (p.1, p.2) (refused c.args.order c.args.symbols.now c.loop-symbol.symbol-index _ (state_of c.loop-symbol.reader) _ c.in_err-take.field-0.0 c.loop-symbol-test.true c.loop-symbol.invariant c.in_err-take.ensures)
