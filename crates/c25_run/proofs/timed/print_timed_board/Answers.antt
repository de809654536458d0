use Rattle.std.proofs.Common.{rules, subst}
use Rattle.std.specs.Io.KnownBytes.{Appends}
use Rattle.c25_board.specs.Board.{signals, state, steps}
use Rattle.c25_report.specs.Ending.{HasFront}
use Rattle.c25_run.proofs.TimedSteps.{all_timed, end_broken, lines_broken}
use Rattle.c25_run.proofs.timed.print_timed_board.Goals as goal

pub returns-in-Err-print_lines-clause-err : goal.returns-in-Err-print_lines-clause-err
returns-in-Err-print_lines-clause-err g c =
    let board = c.args.board.now in
    let after = c.print_steps.new.board in
    lines_broken (signals board) c.args.n (state board) c.in-Ok.outcome (steps after) (state after) (g.O.Write.contents c.args.out.now) (g.O.Write.contents c.print_steps.new.out) c.print_steps.new.lines.items c.in-Ok.ensures.ok
    (g.O.Write.contents c.print_lines.new.out) c.in-Err-print_lines.ensures.err

pub returns-in-Ok-print_text-clause-ok : goal.returns-in-Ok-print_text-clause-ok
returns-in-Ok-print_text-clause-ok g c =
    let board = c.args.board.now in
    let after = c.print_steps.new.board in
    let mid = g.O.Write.contents c.print_lines.new.out in
    let new = g.O.Write.contents c.print_text.new.out in
    all_timed (signals board) c.args.n (state board) c.in-Ok.outcome (steps after) (state after) (g.O.Write.contents c.args.out.now) (g.O.Write.contents c.print_steps.new.out) c.print_steps.new.lines.items c.in-Ok.ensures.ok
    c.print_lines.new.lines.items mid new c.in_default.ensures.ok c.in_default.ensures.empty (subst (Appends mid new) (search rules) c.in-Ok-print_text.ensures.ok)

pub returns-in-Err-print_text-clause-err : goal.returns-in-Err-print_text-clause-err
returns-in-Err-print_text-clause-err g c =
    let board = c.args.board.now in
    let after = c.print_steps.new.board in
    let mid = g.O.Write.contents c.print_lines.new.out in
    let new = g.O.Write.contents c.print_text.new.out in
    end_broken (signals board) c.args.n (state board) c.in-Ok.outcome (steps after) (state after) (g.O.Write.contents c.args.out.now) (g.O.Write.contents c.print_steps.new.out) c.print_steps.new.lines.items c.in-Ok.ensures.ok
    c.print_lines.new.lines.items mid new c.in_default.ensures.ok c.in_default.ensures.empty (subst (λ t. HasFront t mid new) (search rules) c.in-Err-print_text.ensures.err)
