use Rattle.std.proofs.Common.{◌≡◌, ◌+◌, ◌∙◌, ℕ, [], ap, subst, arith}
use Rattle.c25_board.specs.Board.{entries, state, steps}
use Rattle.c25_meaning_processor.specs.Signals.{signals_of}
use Rattle.c25_meaning_processor.specs.WordStep.{WordStep}
use Rattle.c25_prompt.specs.Trace.{Jumps, and_jump, jump_of}
use Rattle.c25_prompt.proofs.Jumped.{jumps_more, kept_more, no_jumps}
use Rattle.c25_prompt.proofs.LastOf.{kept_few, none_kept}
use Rattle.c25_prompt.proofs.OnceMore.{on_again}
use Rattle.c25_prompt.proofs.Rewound.{begun, can_reach_fewer}
use Rattle.c25_prompt.proofs.trace.last_jumps.Goals as goal

pub loop-done-init : goal.loop-done-init
loop-done-init g c =
    let board = c.in_ok-board.board in
    let made = c.in_ok-board.ensures in
    let schedule = g.B.Start.schedule c.args.start.now in
    let first = g.B.Start.first c.args.start.now in
    record {
      on = begun schedule (entries board) first (state board) (steps board) made.schedule made.steps made.state;
      at = made.steps;
      jumped = ([], no_jumps schedule first (state board) made.state, none_kept c.args.most c.new-jumps.result.items c.new-jumps.ensures.items);
    }

pub step_again-requires-clause-more : goal.step_again-requires-clause-more
step_again-requires-clause-more g c =
    let at = c.loop-done.invariant.at in
    can_reach_fewer (g.B.Start.schedule c.args.start.now) (g.B.Start.first c.args.start.now) (steps c.loop-done.board + 1) c.args.n (omega (arith, at)) c.requires

pub keep_jump-requires : goal.keep_jump-requires
keep_jump-requires g c =
    let jumped = c.loop-done.invariant.jumped in
    kept_few c.args.most jumped.0 c.loop-done.jumps.items jumped.2

pub loop-done-preserved : goal.loop-done-preserved
loop-done-preserved g c =
    let i = c.loop-done.invariant in
    let old = c.loop-done.board in
    let new = c.step_again.new.board in
    let schedule = g.B.Start.schedule c.args.start.now in
    let first = g.B.Start.first c.args.start.now in
    let step = c.in_ok-step_again.ensures.step in
    let next = c.jump_of.result in
    let is : next ≡ jump_of (steps new) (state old).registers.pc (state new).registers.pc = c.jump_of.ensures ∙ ap (λ (x : ℕ). jump_of (steps new) x (state new).registers.pc) c.pc-from.ensures in
    record {
      on = on_again schedule (entries old) (entries new) first (state old) (state new) (steps old) (steps new) i.on c.step_again.ensures.schedule step;
      at = step.at ∙ ap (λ (k : ℕ). k + 1) i.at;
      jumped = (
        and_jump i.jumped.0 next,
        jumps_more schedule (entries old) first (state old) (state new) c.loop-done._done (steps old) (steps new) i.jumped.0 next i.on.0 i.at i.jumped.1 step is,
        kept_more c.args.most i.jumped.0 c.loop-done.jumps.items c.keep_jump.new.jumps.items next i.jumped.2 c.in_ok-keep_jump.ensures,
      );
    }

pub returns : goal.returns
returns g c =
    let i = c.loop-done.invariant in
    let board = c.loop-done.board in
    let schedule = g.B.Start.schedule c.args.start.now in
    let first = g.B.Start.first c.args.start.now in
    let all : c.loop-done._done ≡ c.args.n = omega arith in (
      i.jumped.0,
      state board,
      subst (λ (k : ℕ). Jumps WordStep (signals_of schedule) 0 k first i.jumped.0 (state board)) all i.jumped.1,
      c.into_vec.ensures.items ∙ i.jumped.2,
    )
