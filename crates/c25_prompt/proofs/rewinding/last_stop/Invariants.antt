use Rattle.std.proofs.Common.{◌≡◌, ◌≤◌}
use Rattle.c25_board.specs.Board.{entries, state, steps}
use Rattle.c25_meaning_processor.specs.Signals.{signals_of}
use Rattle.c25_meaning_processor.specs.WordStep.{WordStep}
use Rattle.c25_prompt.specs.Past.{IsStop}
use Rattle.c25_prompt.specs.Session.{IsOnRun}
use Rattle.c25_prompt.proofs.rewinding.last_stop.Given as goal

abbrev pub invariant-loop-turn : goal.invariant-loop-turn
invariant-loop-turn g l =
    record {
      on : IsOnRun (g.B.Start.schedule l.start) (g.B.Start.first l.start) (entries l.board) (steps l.board) (state l.board);
      at : l.last.steps ≡ steps l.board;
      stops : IsStop WordStep (signals_of (g.B.Start.schedule l.start)) l.stops.breakpoints l.stops.watches (g.B.Start.first l.start) l.last.ended (steps l.board) (state l.board);
      turn : l._turn ≤ steps l.board;
      within : steps l.board ≤ l.n;
    }
