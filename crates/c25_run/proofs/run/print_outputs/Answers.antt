use Rattle.std.proofs.Common.{Bool, subst, sym}
use Rattle.std.specs.Prelude.{OnErr}
use Rattle.c25_board.specs.Board.{signals, state}
use Rattle.c25_run.specs.Printed.{PrintsFront}
use Rattle.c25_run.proofs.run.print_outputs.Goals as goal

pub returns-then-when-clause-err : goal.returns-then-when-clause-err
returns-then-when-clause-err g c =
    let board = c.args.board.now in
    subst (λ (b : Bool). OnErr c.print_timed_board.result (PrintsFront b (signals board) c.args.n (state board) (g.O.Write.contents c.args.out.now) (g.O.Write.contents c.print_timed_board.new.out)))
    (sym c.if-when.true) c.print_timed_board.ensures.err

pub returns-else-when-clause-err : goal.returns-else-when-clause-err
returns-else-when-clause-err g c =
    let board = c.args.board.now in
    subst (λ (b : Bool). OnErr c.print_board.result (PrintsFront b (signals board) c.args.n (state board) (g.O.Write.contents c.args.out.now) (g.O.Write.contents c.print_board.new.out)))
    (sym c.if-when.false) c.print_board.ensures.err
