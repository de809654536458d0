use Rattle.std.proofs.Common.{rules}
use Rattle.c25_board.specs.Board.{entries, state, steps}
use Rattle.c25_prompt.proofs.BackAgain.{done_again}
use Rattle.c25_prompt.proofs.start.board_after.Goals as goal

pub returns-in-None-clause-state : goal.returns-in-None-clause-state
returns-in-None-clause-state g c =
    let board = c.in_ok-board.board in
    let after = c.run-outcome.new.self in
    let done =
    done_again c.words_end_once.ensures (g.B.Start.schedule c.args.start.now) (g.B.Start.first c.args.start.now) c.args.n c.requires (entries board) (steps board) (steps after) _ _ (state board) (state after) c.run-outcome.result
    c.in_ok-board.ensures.schedule c.in_ok-board.ensures.steps c.in_ok-board.ensures.state c.run-outcome.ensures.run (search rules) in
    done.0

pub returns-in-None-clause-steps : goal.returns-in-None-clause-steps
returns-in-None-clause-steps g c =
    let board = c.in_ok-board.board in
    let after = c.run-outcome.new.self in
    let done =
    done_again c.words_end_once.ensures (g.B.Start.schedule c.args.start.now) (g.B.Start.first c.args.start.now) c.args.n c.requires (entries board) (steps board) (steps after) _ _ (state board) (state after) c.run-outcome.result
    c.in_ok-board.ensures.schedule c.in_ok-board.ensures.steps c.in_ok-board.ensures.state c.run-outcome.ensures.run (search rules) in
    done.1
