use Rattle.std.proofs.Common.{subst, sym}
use Rattle.c25_board.specs.declared.board.Outcome.{Outcome}
use Rattle.c25_board.specs.Board.{signals, state, steps}
use Rattle.c25_board.specs.Run.{IsRun}
use Rattle.c25_board.proofs.Runs.{one_halted, one_ran}
use Rattle.c25_board.proofs.board.Board.run_one.Goals as goal

pub returns-in-Ok-clause-run : goal.returns-in-Ok-clause-run
returns-in-Ok-clause-run g c =
    let old = c.args.self.now in
    let new = c.step.new.self in
    one_ran (signals old) (steps old) (steps new) (g.S.Sink.failures old.devices.sink) (g.S.Sink.failures new.devices.sink) (state old) (state new) c.in-Ok.ensures.count c.in-Ok.ensures.step

pub returns-in-Err-clause-run : goal.returns-in-Err-clause-run
returns-in-Err-clause-run g c =
    let old = c.args.self.now in
    let new = c.step.new.self in
    let failed = g.S.Sink.failures old.devices.sink in
    let fails = g.S.Sink.failures new.devices.sink in
    subst (λ (o : Outcome). IsRun (signals old) (steps old) 1 (state old) o (steps new) (state new) failed fails) (sym c.outcome.ensures)
    (one_halted (signals old) (steps old) (steps new) failed fails c.in-Err.halt (state old) (state new) c.in-Err.ensures.same_count c.in-Err.ensures.step)
