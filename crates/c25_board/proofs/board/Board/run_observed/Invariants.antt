use Rattle.std.proofs.Common.{◌≡◌, ◌+◌, ◌-◌, ◌≤◌, false}
use Rattle.c25_core.specs.Seen.{Sees}
use Rattle.c25_board.specs.Board.{entries, signals, state, steps}
use Rattle.c25_board.proofs.board.Board.run_observed.Given as goal

abbrev pub invariant-loop-done : goal.invariant-loop-done
invariant-loop-done g l =
    let old = l.initial.self in
    record {
      most : l.done ≤ l.n;
      count : steps l.self ≡ steps old + l.done;
      schedule : entries l.self ≡ entries old;
      failures : g.S.Sink.failures l.self.devices.sink ≡ g.S.Sink.failures old.devices.sink;
      seen : Sees g.O.Observer.tells g.O.Observer.ends (signals old) (steps old) l.done false (state old) l.initial.observer (state l.self) l.observer;
    }

abbrev pub decreases-loop-done : goal.decreases-loop-done
decreases-loop-done g l = l.n - l.done
