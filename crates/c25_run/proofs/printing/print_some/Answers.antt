use Rattle.std.proofs.Common.{ap, rules, subst}
use Rattle.std.specs.Io.KnownBytes.{Appends}
use Rattle.c25_board.specs.Board.{signals, state, steps}
use Rattle.c25_run.proofs.Went.{some_printed}
use Rattle.c25_run.proofs.printing.print_some.Goals as goal

pub returns-clause-ok : goal.returns-clause-ok
returns-clause-ok g c =
    let board = c.args.board.now in
    let ran = c.run-outcome.new.self in
    some_printed c.steps_put_one_output_at_most.ensures (signals board) (steps board) c.args.n (state board) (state ran) (steps ran) _ ran.devices.sink.failures c.requires.fresh.0 c.requires.few ran.devices.sink.full
    c.run-outcome.result _ (g.O.Write.contents c.args.out.now) (g.O.Write.contents c.print_bytes.new.out) c.run-outcome.ensures.run
    (ap (λ xs. record (state ran) { world = record (state ran).world { outputs = xs } }) c.clear.ensures.outputs)
    (subst (Appends (g.O.Write.contents c.args.out.now) (g.O.Write.contents c.print_bytes.new.out)) (search rules) c.in_default.ensures.ok)
