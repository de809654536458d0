use Rattle.std.proofs.Common.{rules}
use Rattle.c25_board.specs.Board.{signals, state, steps}
use Rattle.c25_prompt.proofs.Went.{freely_done}
use Rattle.c25_prompt.proofs.going.run_freely.Goals as goal

pub returns-in-None-clause-run : goal.returns-in-None-clause-run
returns-in-None-clause-run c =
    freely_done (signals c.args.board.now) (steps c.args.board.now) c.args.n _ _ _ (state c.args.board.now) (state c.run-outcome.new.self) c.run-outcome.result c.ended_freely.result
    c.run-outcome.ensures.run (search rules) c.ended_freely.ensures
