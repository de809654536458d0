-- the jumps of the steps so far, and the last of them that are kept
use Rattle.std.proofs.Common.{◌≡◌, List}
use Rattle.c25_board.specs.Board.{entries, state, steps}
use Rattle.c25_meaning_processor.specs.Signals.{signals_of}
use Rattle.c25_meaning_processor.specs.WordStep.{WordStep}
use Rattle.c25_prompt.specs.Session.{IsOnRun}
use Rattle.c25_prompt.specs.Lasts.{last_of}
use Rattle.c25_prompt.specs.Trace.{Jumps}
use Rattle.c25_prompt_texts.specs.declared.jumps.Jump.{Jump}
use Rattle.c25_prompt.proofs.trace.last_jumps.Given as goal

abbrev pub invariant-loop-done : goal.invariant-loop-done
invariant-loop-done g l =
    record {
      on : IsOnRun (g.B.Start.schedule l.start) (g.B.Start.first l.start) (entries l.board) (steps l.board) (state l.board);
      at : steps l.board ≡ l._done;
      jumped : (all : List Jump) × Jumps WordStep (signals_of (g.B.Start.schedule l.start)) 0 l._done (g.B.Start.first l.start) all (state l.board) × (l.jumps.items ≡ last_of l.most all);
    }
