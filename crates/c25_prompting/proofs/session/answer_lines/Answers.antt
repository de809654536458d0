use Rattle.std.proofs.Common.{ap}
use Rattle.std.proofs.lemmas.Result.{IfOk-weaker}
use Rattle.c25_board.specs.Board.{state, steps}
use Rattle.c25_prompt.specs.Point.{session_of}
use Rattle.c25_prompt_lines.specs.Addresses.{program_view}
use Rattle.c25_prompting.proofs.Begun.{at_first, begun, nothing_ahead}
use Rattle.c25_prompting.proofs.session.answer_lines.Goals as goal

pub returns : goal.returns
returns g c =
    let prompt = c.in-Ok.prompt in
    let is = c.in-Ok.ensures in
    let first = g.B.Start.first c.args.start.now in
    let reader = c.in-Ok-new in
    IfOk-weaker c.converse.result _ _
    (λ done talks.
    begun (g.B.Start.schedule c.args.start.now) (g.B.Start.schedule prompt.start.now) (program_view c.args.program) (program_view prompt.program) first (g.B.Start.first prompt.start.now)
    (g.R.Read.remaining c.args.input.now) _ (g.O.Write.contents c.args.out.now) _ _ (session_of prompt.board prompt.stops prompt.displays) _
    (ap (λ start. g.B.Start.schedule start.now) is.start) (ap program_view is.program) (ap (λ start. g.B.Start.first start.now) is.start)
    (nothing_ahead (λ r. g.R.Read.remaining r.now) reader.reader _ reader.ensures.inner reader.ensures.empty reader.ensures.capacity)
    (at_first (steps prompt.board) (state prompt.board) first prompt.stops.breakpoints prompt.stops.once prompt.stops.watches prompt.stops.ignored prompt.displays is.steps is.state is.breakpoints is.once is.watches is.ignored is.displays)
    talks)
    c.converse.ensures
