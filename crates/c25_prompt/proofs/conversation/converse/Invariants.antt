use Rattle.std.proofs.Common.{◌≡◌}
use Rattle.c25_board.specs.Board.{entries, state, steps}
use Rattle.c25_meaning_processor.specs.Signals.{signals_of}
use Rattle.c25_meaning_processor.specs.WordStep.{WordStep}
use Rattle.c25_prompt_lines.specs.Addresses.{program_view}
use Rattle.c25_prompt.specs.Conversing.{standing}
use Rattle.c25_prompt.specs.Each.{AnswersEach}
use Rattle.c25_prompt.specs.Point.{session_of}
use Rattle.c25_prompt.specs.Session.{IsOnRun}
use Rattle.c25_prompt.proofs.conversation.converse.Given as goal

abbrev pub invariant-loop-turn : goal.invariant-loop-turn
invariant-loop-turn g l =
    let old = l.initial.prompt in
    let now = l.prompt in
    record {
      program : now.program ≡ old.program;
      start : now.start ≡ old.start;
      reached : IsOnRun (g.B.Start.schedule old.start.now) (g.B.Start.first old.start.now) (entries now.board) (steps now.board) (state now.board);
      each :
          AnswersEach WordStep (signals_of (g.B.Start.schedule old.start.now)) (program_view old.program) (g.B.Start.first old.start.now) l._turn
          (standing (g.R.Read.remaining l.initial.reader) (g.W.Write.contents l.initial.out) (session_of old.board old.stops old.displays))
          (standing (g.R.Read.remaining l.reader) (g.W.Write.contents l.out) (session_of now.board now.stops now.displays));
    }
