use Rattle.std.proofs.Common.{◌≡◌, ◌∙◌, ◌+◌, ap, arith, length, refl, rules}
use Rattle.c25_board.specs.Board.{entries, signals, state, steps}
use Rattle.arrayvec.specs.ArrayVec.{array_vec_len}
use Rattle.c25_run.proofs.TimedSteps.{begun_timed, broken_at, left_at, more_at, ran_count}
use Rattle.c25_run.proofs.timed.print_steps.Goals as goal

pub loop-step-init : goal.loop-step-init
loop-step-init g c =
    let board = c.args.board.now in
    let none : array_vec_len c.args.lines.now ≡ 0 = ap length c.requires.none in
    record {
      count = c.requires.first;
      fresh = c.requires.fresh;
      schedule = refl;
      room = omega (arith, none);
      printed = begun_timed (entries board) (state board) (steps board) (g.O.Write.contents c.args.out.now) c.args.lines.now.items c.requires.first c.requires.none;
    }

pub loop-step-preserved : goal.loop-step-preserved
loop-step-preserved g c =
    let board = c.args.board.now in
    let before = c.loop-step.board in
    let after = c.do_step.new.board in
    let inv = c.loop-step.invariant in
    let now = g.O.Write.contents c.loop-step.out in
    let lines = c.loop-step.lines.items in
    let more = c.do_step.new.lines.items in
    record {
      count = ran_count (signals before) (steps before) (state before) c.do_step.result (steps after) (state after) lines more c.do_step.ensures.step c.in-Ran.is ∙ ap (λ k. k + 1) inv.count;
      fresh = c.do_step.ensures.fresh;
      schedule = c.do_step.ensures.schedule ∙ inv.schedule;
      room = c.in_default.ensures.room;
      printed =
          more_at c.two_runs_are_one.ensures.words c.outputs_have_no_part_in_runs.ensures.runs (entries board) (entries before) c.loop-step.step (steps before) (state board) (state before) (g.O.Write.contents c.args.out.now) now lines inv.schedule inv.fresh.0 inv.printed
          c.do_step.result (steps after) (state after) more c.print_due.new.lines.items (g.O.Write.contents c.print_due.new.out) c.in-Ran.is c.do_step.ensures.fresh.0 c.do_step.ensures.step c.in_default.ensures.ok;
    }

pub returns-in-Left-clause-ok : goal.returns-in-Left-clause-ok
returns-in-Left-clause-ok g c =
    let board = c.args.board.now in
    let before = c.loop-step.board in
    let after = c.do_step.new.board in
    let inv = c.loop-step.invariant in
    left_at c.two_runs_are_one.ensures.words c.outputs_have_no_part_in_runs.ensures.runs (entries board) (entries before) c.loop-step.step (steps before) (state board) (state before) (g.O.Write.contents c.args.out.now) (g.O.Write.contents c.loop-step.out)
    c.loop-step.lines.items inv.schedule inv.fresh.0 inv.printed
    c.args.n c.in-Left.at c.in-Left.stop c.do_step.result (steps after) (state after) c.do_step.new.lines.items (search rules) c.in-Left.is c.do_step.ensures.fresh.0 c.do_step.ensures.step

pub returns-in-Err-clause-err : goal.returns-in-Err-clause-err
returns-in-Err-clause-err g c =
    let board = c.args.board.now in
    let before = c.loop-step.board in
    let after = c.do_step.new.board in
    let inv = c.loop-step.invariant in
    broken_at c.two_runs_are_one.ensures.words c.outputs_have_no_part_in_runs.ensures.runs (entries board) (entries before) c.loop-step.step (steps before) (state board) (state before) (g.O.Write.contents c.args.out.now) (g.O.Write.contents c.loop-step.out)
    c.loop-step.lines.items inv.schedule inv.fresh.0 inv.printed
    c.args.n c.do_step.result (steps after) (state after) c.do_step.new.lines.items (g.O.Write.contents c.print_due.new.out) (search rules) c.in-Ran.is c.do_step.ensures.fresh.0 c.do_step.ensures.step c.in-Err.ensures.err
