use Rattle.std.proofs.Common.{rules}
use Rattle.c25_board.specs.Board.{entries, state, steps}
use Rattle.c25_prompt.proofs.OnceMore.{one_done}
use Rattle.c25_prompt.proofs.again.step_again.Goals as goal

pub returns-in-None-clause-step : goal.returns-in-None-clause-step
returns-in-None-clause-step g c =
    let old = c.args.board.now in
    let after = c.run_one-outcome.new.self in
    one_done c.words_end_once.ensures (g.B.Start.schedule c.args.start.now) (entries old) (g.B.Start.first c.args.start.now) (state old) (steps old) c.requires.reached c.requires.more (steps after) _ _ (state after)
    c.run_one-outcome.result c.run_one-outcome.ensures.run (search rules)
