use Rattle.c25_board.specs.Board.{signals, state, steps}
use Rattle.c25_board.proofs.RunsTo.{one_fails, one_meets, one_passes, one_stops}
use Rattle.c25_board.proofs.board.Board.run_one_to.Goals as goal

pub returns-then-meets-clause-run : goal.returns-then-meets-clause-run
returns-then-meets-clause-run g c =
    let old = c.args.self.now in
    one_meets (signals old) c.args.breaks.now _ _ _ _ (state old) (state c.step.new.self) _ c.in-Ok.ensures.count c.in-Ok.ensures.step c.meets.ensures c.if-meets.true

pub returns-else-meets-clause-run : goal.returns-else-meets-clause-run
returns-else-meets-clause-run g c =
    let old = c.args.self.now in
    one_passes (signals old) c.args.breaks.now _ _ _ _ (state old) (state c.step.new.self) _ c.in-Ok.ensures.count c.in-Ok.ensures.step c.meets.ensures c.if-meets.false

pub returns-in-Err-Stop-clause-run : goal.returns-in-Err-Stop-clause-run
returns-in-Err-Stop-clause-run g c =
    let old = c.args.self.now in
    let a = c.in-Err-Stop.ensures in
    one_stops (signals old) c.args.breaks.now _ _ _ _ _ c.in-Err-Stop.stop (state old) (state c.step.new.self) a.same_count c.steps.ensures (rw c.in-Err-Stop.field-0-is at a.step)

pub returns-in-Err-Sink-clause-run : goal.returns-in-Err-Sink-clause-run
returns-in-Err-Sink-clause-run g c =
    let old = c.args.self.now in
    let a = c.in-Err-Sink.ensures in
    one_fails (signals old) c.args.breaks.now _ _ _ _ _ (state old) (state c.step.new.self) a.same_count c.steps-in-Err-Sink.ensures (rw c.in-Err-Sink.field-0-is at a.step)
