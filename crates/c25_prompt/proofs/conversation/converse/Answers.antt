use Rattle.std.proofs.Common.{◌∙◌, ap, subst}
use Rattle.c25_board.specs.Board.{entries, state, steps}
use Rattle.c25_meaning_processor.specs.Signals.{signals_of}
use Rattle.c25_meaning_processor.specs.WordStep.{WordStep}
use Rattle.c25_prompt_lines.specs.Addresses.{program_view}
use Rattle.c25_prompt.specs.Conversing.{IsTurn, standing}
use Rattle.c25_prompt.specs.Point.{session_of}
use Rattle.c25_prompt.specs.declared.conversation.Turn.{Turn}
use Rattle.c25_prompt.proofs.Conversed.{one_more, run_of, turn_of}
use Rattle.c25_prompt.proofs.conversation.converse.Goals as goal

pub loop-turn-preserved : goal.loop-turn-preserved
loop-turn-preserved g c =
    let i = c.loop-turn.invariant in
    let old = c.args.prompt.now in
    let now = c.loop-turn.prompt in
    let new = c.answer_line.new.prompt in
    let done = c.in_ok-answer_line.ensures in
    let schedule = g.B.Start.schedule old.start.now in
    let first = g.B.Start.first old.start.now in
    let program = program_view old.program in
    let begun = standing (g.R.Read.remaining c.args.reader.now) (g.W.Write.contents c.args.out.now) (session_of old.board old.stops old.displays) in
    let before = standing (g.R.Read.remaining c.loop-turn.reader) (g.W.Write.contents c.loop-turn.out) (session_of now.board now.stops now.displays) in
    let after = standing (g.R.Read.remaining c.answer_line.new.reader) (g.W.Write.contents c.answer_line.new.out) (session_of new.board new.stops new.displays) in
    let same_schedule = ap (λ start. g.B.Start.schedule start.now) i.start in
    let same_first = ap (λ start. g.B.Start.first start.now) i.start in
    let same_program = ap program_view i.program in
    let turn =
    subst (λ (t : Turn). IsTurn WordStep (signals_of schedule) program first t before after) c.in-Answered.is
    (turn_of schedule (g.B.Start.schedule now.start.now) program (program_view now.program) first (g.B.Start.first now.start.now) c.in_ok-answer_line.field-0 before after same_schedule same_program same_first done.turn) in
    record {
      program = done.program ∙ i.program;
      start = done.start ∙ i.start;
      reached = run_of schedule (g.B.Start.schedule now.start.now) (entries new.board) first (g.B.Start.first now.start.now) (state new.board) (steps new.board) same_schedule same_first done.reached;
      each = one_more (signals_of schedule) program first c.loop-turn._turn begun before after i.each turn;
    }
