use Rattle.std.proofs.Common.{◌≡◌, ◌∙◌, ◌+◌, ℕ, arith, refl, subst}
use Rattle.c25_board.specs.Board.{entries, signals, state, steps}
use Rattle.c25_meaning_processor.specs.State.{State}
use Rattle.c25_unused_inputs.specs.Stepping.{HasCome}
use Rattle.c25_unused_inputs.proofs.Seen.{come_none, come_on, stopped_more, went_count}
use Rattle.c25_unused_inputs.proofs.stepping.watched.Goals as goal

pub loop-done-init : goal.loop-done-init
loop-done-init c =
    let m = steps c.args.board.now in
    record {
      count = omega arith;
      same = refl;
      come = λ s reached known. come_none (entries c.args.board.now) m (m + 0) s (state c.args.board.now) c.args.requests (omega arith) reached known;
    }

pub goes-requires : goal.goes-requires
goes-requires c = omega (arith, c.loop-done.invariant.count, c.loop-done-test.true, c.requires)

pub loop-done-preserved : goal.loop-done-preserved
loop-done-preserved c =
    let before = c.loop-done.board in
    let after = c.goes.new.board in
    let m = steps c.args.board.now in
    let done = c.loop-done._done in
    let more = went_count (signals before) (steps before) (steps after) (state before) (state after) c.in_ok-goes.field-0 c.if-not-branch.false c.in_ok-goes.ensures.goes in
    record {
      count = omega (arith, more, c.loop-done.invariant.count);
      same = c.in_ok-goes.ensures.schedule ∙ c.loop-done.invariant.same;
      come = λ s reached known.
          come_on c.words_end_once.ensures c.two_runs_are_one.ensures.words (entries c.args.board.now) (entries before) (m + done) s (state before) c.args.requests c.loop-done.requests (steps before)
          c.loop-done.invariant.same (c.loop-done.invariant.come s reached known) (steps after) (state after) c.in_ok-goes.field-0 c.look-requests.result (m + (done + 1))
          c.if-not-branch.false c.look-requests.ensures (omega arith) c.in_ok-goes.ensures.goes;
    }

pub returns-then-not-branch-clause-watches : goal.returns-then-not-branch-clause-watches
returns-then-not-branch-clause-watches c =
    let before = c.loop-done.board in
    let after = c.goes.new.board in
    let m = steps c.args.board.now in
    let done = c.loop-done._done in
    λ s reached known.
    stopped_more c.words_end_once.ensures c.two_runs_are_one.ensures.words (entries c.args.board.now) (entries before) (m + done) s (state before) c.args.requests c.loop-done.requests (steps before)
    c.loop-done.invariant.same (c.loop-done.invariant.come s reached known) (m + c.args.n) (steps after) (state after) c.in_ok-goes.field-0
    c.if-not-branch.true (omega (arith, c.loop-done-test.true)) c.in_ok-goes.ensures.goes

pub returns-then-not-branch-clause-schedule : goal.returns-then-not-branch-clause-schedule
returns-then-not-branch-clause-schedule c = c.in_ok-goes.ensures.schedule ∙ c.loop-done.invariant.same

pub returns-in_err-goes-clause-schedule : goal.returns-in_err-goes-clause-schedule
returns-in_err-goes-clause-schedule c = c.in_err-goes.ensures.schedule ∙ c.loop-done.invariant.same

pub returns-clause-schedule : goal.returns-clause-schedule
returns-clause-schedule c = c.loop-done.invariant.same

pub returns-clause-watches : goal.returns-clause-watches
returns-clause-watches c =
    let m = steps c.args.board.now in
    let all : m + c.loop-done._done ≡ m + c.args.n = omega (arith, c.loop-done-test.false, c.loop-done.auto._done-end) in
    λ s reached known.
    subst (λ (x : ℕ). HasCome (signals c.args.board.now) x s (steps c.loop-done.board) (state c.loop-done.board) c.args.requests c.loop-done.requests) all (c.loop-done.invariant.come s reached known)

pub returns-clause-count : goal.returns-clause-count
returns-clause-count c = omega (arith, c.loop-done.invariant.count, c.loop-done-test.false, c.loop-done.auto._done-end)
