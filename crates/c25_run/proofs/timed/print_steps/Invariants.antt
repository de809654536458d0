use Rattle.std.proofs.Common.{◌≡◌, ◌+◌, ◌≤◌}
use Rattle.arrayvec.specs.ArrayVec.{array_vec_len}
use Rattle.c25_board.specs.Board.{entries, signals, state, steps}
use Rattle.c25_board.specs.declared.board.Outcome.TheVariants as outcome
use Rattle.c25_run.specs.Printed.{IsFresh, TimedSome}
use Rattle.c25_run.proofs.timed.print_steps.Given as goal

abbrev pub invariant-loop-step : goal.invariant-loop-step
invariant-loop-step g l =
    let old = l.initial.board in
    record {
      count : steps l.board ≡ l.step;
      fresh : IsFresh l.board.devices.sink;
      schedule : entries l.board ≡ entries old;
      room : array_vec_len l.lines + 22 ≤ 45056;
      printed : TimedSome (signals old) l.step (state old) outcome.Ran (steps l.board) (state l.board) (g.O.Write.contents l.initial.out) (g.O.Write.contents l.out) l.lines.items;
    }
