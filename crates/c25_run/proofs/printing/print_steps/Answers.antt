use Rattle.std.proofs.Common.{refl, rules, arith}
use Rattle.c25_board.specs.Board.{entries, state, steps}
use Rattle.c25_board.specs.declared.board.Outcome.TheVariants as outcome
use Rattle.c25_run.proofs.Looped.{begun, broken_at, left_at, more_at}
use Rattle.c25_run.proofs.printing.print_steps.Goals as goal

pub loop-done-init : goal.loop-done-init
loop-done-init g c =
    let board = c.args.board.now in
    record { most = omega arith; fresh = c.requires.fresh; schedule = refl; printed = begun (entries board) (steps board) (state board) (g.O.Write.contents c.args.out.now) c.requires.first }

pub loop-done-preserved : goal.loop-done-preserved
loop-done-preserved g c =
    let before = c.loop-done.board in
    let after = c.print_some.new.board in
    let inv = c.loop-done.invariant in
    record {
      most = search rules;
      fresh = search rules;
      schedule = search rules;
      printed =
          more_at c.two_runs_are_one.ensures.words c.outputs_have_no_part_in_runs.ensures.runs (entries c.args.board.now) (entries before) c.loop-done.done c.min-some.result (steps before) (state c.args.board.now) (state before)
          (g.O.Write.contents c.args.out.now) (g.O.Write.contents c.loop-done.out) (g.O.Write.contents c.print_some.new.out) inv.schedule inv.printed outcome.Ran _ (steps after) (state after) c.in-Ok-Ran.field-0-is c.in-Ok-Ran.ensures.ok;
    }

pub returns-in-Ok-Left-clause-ok : goal.returns-in-Ok-Left-clause-ok
returns-in-Ok-Left-clause-ok g c =
    let before = c.loop-done.board in
    let after = c.print_some.new.board in
    let inv = c.loop-done.invariant in
    left_at c.two_runs_are_one.ensures.words c.outputs_have_no_part_in_runs.ensures.runs (entries c.args.board.now) (entries before) c.loop-done.done c.min-some.result (steps before) (state c.args.board.now) (state before)
    (g.O.Write.contents c.args.out.now) (g.O.Write.contents c.loop-done.out) (g.O.Write.contents c.print_some.new.out) inv.schedule inv.printed c.args.n c.in-Ok-Left.at c.in-Ok-Left.stop _ (steps after) (state after) (search rules) c.in-Ok-Left.field-0-is c.in-Ok-Left.ensures.ok

pub returns-in-Err-clause-err : goal.returns-in-Err-clause-err
returns-in-Err-clause-err g c =
    let before = c.loop-done.board in
    let inv = c.loop-done.invariant in
    broken_at c.two_runs_are_one.ensures.words c.outputs_have_no_part_in_runs.ensures.runs (entries c.args.board.now) (entries before) c.loop-done.done c.min-some.result (steps before) (state c.args.board.now) (state before)
    (g.O.Write.contents c.args.out.now) (g.O.Write.contents c.loop-done.out) (g.O.Write.contents c.print_some.new.out) inv.schedule inv.printed c.args.n (search rules) c.in-Err.ensures.err
