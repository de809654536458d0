use Rattle.std.proofs.Common.{◌≡◌, ◌+◌, ◌∙◌, ◌++◌, ℕ, [], ap, arith, length, rules, subst, tests}
use Rattle.c25_board.specs.Board.{entries, signals, state, steps}
use Rattle.c25_meaning_processor.specs.Signals.{signals_of}
use Rattle.c25_meaning_processor.specs.WordStep.{WordStep}
use Rattle.c25_prompt.specs.Lasts.{last_of}
use Rattle.c25_prompt.specs.Outputs.{PutOut, at_step}
use Rattle.c25_prompt.proofs.LastOf.{kept_and, kept_few, none_kept}
use Rattle.c25_prompt.proofs.OnceMore.{on_again}
use Rattle.c25_prompt.proofs.PutOut.{grown, more_put, no_fewer, none_put}
use Rattle.c25_prompt.proofs.Rewound.{begun, can_reach_fewer}
use Rattle.c25_prompt.proofs.outputs.last_outputs.Goals as goal

pub loop-done-init : goal.loop-done-init
loop-done-init g c =
    let board = c.in_ok-board.board in
    let made = c.in_ok-board.ensures in
    let schedule = g.B.Start.schedule c.args.start.now in
    let first = g.B.Start.first c.args.start.now in
    record {
      on = begun schedule (entries board) first (state board) (steps board) made.schedule made.steps made.state;
      at = made.steps;
      put = ([], none_put schedule first (state board) made.state, none_kept c.args.most c.new-kept.result.items c.new-kept.ensures.items);
    }

pub step_again-requires-clause-more : goal.step_again-requires-clause-more
step_again-requires-clause-more g c =
    let at = c.loop-done.invariant.at in
    can_reach_fewer (g.B.Start.schedule c.args.start.now) (g.B.Start.first c.args.start.now) (steps c.loop-done.board + 1) c.args.n (omega (arith, at)) c.requires

pub outputs_after-requires : goal.outputs_after-requires
outputs_after-requires g c =
    let old = c.loop-done.board in
    let new = c.step_again.new.board in
    let count : (length c.words-before.result.now) ≡ length (state old).world.outputs = ap length (c.words-before.ensures ∙ c.sink.ensures.outputs) in
    no_fewer c.steps_put_one_output_at_most.ensures (signals old) (state old) (state new) (steps old) (steps new) c.in_ok-step_again.ensures.step (length c.words-before.result.now) count

pub keep_outputs-requires : goal.keep_outputs-requires
keep_outputs-requires g c =
    let put = c.loop-done.invariant.put in
    kept_few c.args.most put.0 c.loop-done.kept.items put.2

pub loop-done-preserved : goal.loop-done-preserved
loop-done-preserved g c =
    let i = c.loop-done.invariant in
    let old = c.loop-done.board in
    let new = c.step_again.new.board in
    let schedule = g.B.Start.schedule c.args.start.now in
    let first = g.B.Start.first c.args.start.now in
    let step = c.in_ok-step_again.ensures.step in
    let before = (length c.words-before.result.now) in
    let count : before ≡ length (state old).world.outputs = ap length (c.words-before.ensures ∙ c.sink.ensures.outputs) in
    let more = c.outputs_after.result.now in
    let grew = grown c.steps_put_one_output_at_most.ensures (signals old) (state old) (state new) (steps old) (steps new) step before more count c.outputs_after.ensures in
    record {
      on = on_again schedule (entries old) (entries new) first (state old) (state new) (steps old) (steps new) i.on c.step_again.ensures.schedule step;
      at = step.at ∙ ap (λ (k : ℕ). k + 1) i.at;
      put = (
        i.put.0 ++ at_step (steps new) more,
        more_put schedule (entries old) first (state old) (state new) c.loop-done._done (steps old) (steps new) i.put.0 more i.on.0 i.at i.put.1 step grew,
        kept_and c.args.most i.put.0 c.loop-done.kept.items c.keep_outputs.new.kept.items (at_step (steps new) more) i.put.2
            (c.in_ok-keep_outputs.ensures ∙ ap (λ (k : ℕ). last_of c.args.most (c.loop-done.kept.items ++ at_step k more)) c.steps.ensures),
      );
    }

pub returns : goal.returns
returns g c =
    let i = c.loop-done.invariant in
    let board = c.loop-done.board in
    let schedule = g.B.Start.schedule c.args.start.now in
    let first = g.B.Start.first c.args.start.now in
    let all : c.loop-done._done ≡ c.args.n = omega arith in (
      i.put.0,
      state board,
      subst (λ (k : ℕ). PutOut WordStep (signals_of schedule) 0 k first i.put.0 (state board)) all i.put.1,
      c.into_vec.ensures.items ∙ i.put.2,
    )
