use Rattle.std.proofs.Common.{◌≡◌, ◌≤◌}
use Rattle.c25_board.specs.Board.{entries, state, steps}
use Rattle.c25_meaning_processor.specs.Signals.{signals_of}
use Rattle.c25_meaning_processor.specs.WordStep.{WordStep}
use Rattle.c25_prompt.specs.Past.{Meets}
use Rattle.c25_prompt.specs.Session.{IsOnRun}
use Rattle.c25_prompt.proofs.hits.count_met.Given as goal

abbrev pub invariant-loop-done : goal.invariant-loop-done
invariant-loop-done g l =
    record {
      on : IsOnRun (g.B.Start.schedule l.start) (g.B.Start.first l.start) (entries l.board) (steps l.board) (state l.board);
      at : steps l.board ≡ l._done;
      few : l.count ≤ l._done;
      met : Meets WordStep (signals_of (g.B.Start.schedule l.start)) l.address 0 l._done (g.B.Start.first l.start) l.count (state l.board);
    }
