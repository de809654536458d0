use Rattle.c25_board.specs.Board.{signals, state, steps}
use Rattle.c25_board.proofs.SeenSteps.{one_seen}
use Rattle.c25_board.proofs.board.Board.see_step.Goals as goal

pub returns-in-Ok-clause-seen : goal.returns-in-Ok-clause-seen
returns-in-Ok-clause-seen g c =
    let old = c.args.self.now in
    let new = c.step.new.self in
    one_seen g.O.Observer.tells g.O.Observer.ends (signals old) (steps old) c.show.result (state old) (state new) c.args.observer.now c.show.new.observer c.acting-acting.result c.in-Ok.ensures.step.0 c.acting-acting.ensures
    c.show.ensures.told c.show.ensures.ends

pub returns-in-Ok-clause-failures : goal.returns-in-Ok-clause-failures
returns-in-Ok-clause-failures g c = c.in-Ok.ensures.step.1
