use Rattle.std.proofs.Common.{length}
use Rattle.c25_phases.proofs.Filed.{few_run}
use Rattle.c25_phases.proofs.Runs.{few_more, run_more}
use Rattle.c25_phases.proofs.lines.Lines.add_all.Goals as goal

pub add_run-requires : goal.add_run-requires
add_run-requires c =
    few_run c.deref-run-items.result.now c.loop-run.run-index _ c.args.lines.now.file.now c.loop-run.rest.now _ c.loop-run.self _ 65535 c.loop-run-test.true c.split_at.ensures.front c.loop-run.invariant.lines c.requires

pub loop-run-preserved : goal.loop-run-preserved
loop-run-preserved c =
    let runs = c.deref-run-items.result.now in
    let i = c.loop-run.run-index in
    let numbers = c.loop-run.rest.now in
    let split = c.split_at.ensures in
    record {
      lines = run_more runs i _ c.args.lines.now.file.now numbers _ _ c.loop-run.self _ _ c.loop-run-test.true split.front split.back c.in_ok-add_run.ensures c.loop-run.invariant.lines;
      few = few_more runs i _ _ (length numbers) c.loop-run-test.true split.back_len c.loop-run.invariant.few;
    }
