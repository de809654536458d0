use Rattle.std.proofs.Common.{rules, subst}
use Rattle.c25_board.specs.Board.{signals, state, steps}
use Rattle.c25_report.specs.Ending.{HasFront}
use Rattle.c25_run.proofs.Joined.{end_broken}
use Rattle.c25_run.proofs.printing.print_board.Goals as goal

pub returns-in-Err-print_text-clause-err : goal.returns-in-Err-print_text-clause-err
returns-in-Err-print_text-clause-err g c =
    let board = c.args.board.now in
    let after = c.print_steps.new.board in
    let now = g.O.Write.contents c.print_steps.new.out in
    let new = g.O.Write.contents c.print_text.new.out in
    end_broken (signals board) c.args.n (state board) c.in-Ok.outcome (steps after) (state after) (g.O.Write.contents c.args.out.now) now new c.in-Ok.ensures.fresh.0 c.in-Ok.ensures.ok
    (subst (λ t. HasFront t now new) (search rules) c.in-Err-print_text.ensures.err)
