-- the steps so far are done, and what is known of the lines is what they show
use Rattle.std.proofs.Common.{◌≡◌, ◌+◌}
use Rattle.c25_board.specs.Board.{entries, signals, state, steps}
use Rattle.c25_meaning_processor.specs.Run.{Reaches}
use Rattle.c25_meaning_processor.specs.State.{State}
use Rattle.c25_meaning_processor.specs.WordStep.{WordStep}
use Rattle.c25_unused_inputs.specs.Stepping.{HasCome}
use Rattle.c25_unused_inputs.specs.Watched.{KnowAll}
use Rattle.c25_unused_inputs.proofs.stepping.watched.Given as goal

abbrev pub invariant-loop-done : goal.invariant-loop-done
invariant-loop-done l =
    let old = l.initial.board in
    record {
      count : steps l.board ≡ steps old + l._done;
      same : entries l.board ≡ entries old;
      come : (s : State) → Reaches WordStep (signals old) 0 (steps old) s (state old) → KnowAll (signals old) (steps old) s l.fn.requests
          → HasCome (signals old) (steps old + l._done) s (steps l.board) (state l.board) l.fn.requests l.requests;
    }
