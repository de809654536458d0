use Rattle.std.proofs.Common.{◌≡◌, ◌+◌, ◌∙◌, ℕ, ap, subst, arith}
use Rattle.c25_board.specs.Board.{entries, state, steps}
use Rattle.c25_meaning_processor.specs.Signals.{signals_of}
use Rattle.c25_meaning_processor.specs.WordStep.{WordStep}
use Rattle.c25_prompt.specs.Past.{Meets}
use Rattle.c25_prompt.proofs.OnceMore.{met_more, met_none, on_again}
use Rattle.c25_prompt.proofs.Rewound.{begun, can_reach_fewer}
use Rattle.c25_prompt.proofs.hits.count_met.Goals as goal

pub loop-done-init : goal.loop-done-init
loop-done-init g c =
    let board = c.in_ok-board.board in
    let made = c.in_ok-board.ensures in
    let schedule = g.B.Start.schedule c.args.start.now in
    let first = g.B.Start.first c.args.start.now in
    record {
      on = begun schedule (entries board) first (state board) (steps board) made.schedule made.steps made.state;
      at = made.steps;
      few = omega arith;
      met = met_none schedule c.args.address first (state board) made.state;
    }

pub step_again-requires-clause-more : goal.step_again-requires-clause-more
step_again-requires-clause-more g c =
    let at = c.loop-done.invariant.at in
    can_reach_fewer (g.B.Start.schedule c.args.start.now) (g.B.Start.first c.args.start.now) (steps c.loop-done.board + 1) c.args.n (omega (arith, at)) c.requires

pub loop-done-preserved : goal.loop-done-preserved
loop-done-preserved g c =
    let i = c.loop-done.invariant in
    let old = c.loop-done.board in
    let new = c.step_again.new.board in
    let schedule = g.B.Start.schedule c.args.start.now in
    let first = g.B.Start.first c.args.start.now in
    let step = c.in_ok-step_again.ensures.step in
    let few = i.few in
    let small = c.met_once-count.ensures.small in
    record {
      on = on_again schedule (entries old) (entries new) first (state old) (state new) (steps old) (steps new) i.on c.step_again.ensures.schedule step;
      at = step.at ∙ ap (λ (k : ℕ). k + 1) i.at;
      few = omega (arith, few, small);
      met = met_more schedule (entries old) c.args.address first (state old) (state new) c.loop-done._done (steps old) (steps new) c.loop-done.count c.met_once-count.result i.on.0 i.at i.met step c.met_once-count.ensures.met;
    }

pub returns : goal.returns
returns g c =
    let i = c.loop-done.invariant in
    let board = c.loop-done.board in
    let schedule = g.B.Start.schedule c.args.start.now in
    let first = g.B.Start.first c.args.start.now in
    let all : c.loop-done._done ≡ c.args.n = omega arith in
    (state board, subst (λ (k : ℕ). Meets WordStep (signals_of schedule) c.args.address 0 k first c.loop-done.count (state board)) all i.met)
