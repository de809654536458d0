use Rattle.std.proofs.Common.{◌≡◌, ◌-◌, ◌≤◌}
use Rattle.c25_board.specs.Board.{entries, signals, state, steps}
use Rattle.c25_board.specs.declared.board.Outcome.TheVariants as outcome
use Rattle.c25_run.specs.Printed.{IsFresh, PrintsSome}
use Rattle.c25_run.proofs.printing.print_steps.Given as goal

abbrev pub invariant-loop-done : goal.invariant-loop-done
invariant-loop-done g l =
    let old = l.initial.board in
    record {
      most : l.done ≤ l.n;
      fresh : IsFresh l.board.devices.sink;
      schedule : entries l.board ≡ entries old;
      printed : PrintsSome (signals old) 0 l.done (state old) outcome.Ran (steps l.board) (state l.board) (g.O.Write.contents l.initial.out) (g.O.Write.contents l.out);
    }

abbrev pub decreases-loop-done : goal.decreases-loop-done
decreases-loop-done g l = l.n - l.done
