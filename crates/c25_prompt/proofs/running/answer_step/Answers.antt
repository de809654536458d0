use Rattle.c25_board.specs.Board.{signals, state, steps}
use Rattle.c25_prompt.proofs.Stepped.{steps_told}
use Rattle.c25_prompt.proofs.running.answer_step.Goals as goal

pub returns-clause-answer : goal.returns-clause-answer
returns-clause-answer c =
    let old = c.args.board.now in
    let new = c.run_freely.new.board in
    steps_told (signals old) c.args.n (steps old) (steps new) (state old) (state new) c.tried-n.result c.in_ok-ended.ended c.ended_line.result c.tried-n.ensures.tried c.in_ok-ended.ensures.run c.ended_line.ensures
