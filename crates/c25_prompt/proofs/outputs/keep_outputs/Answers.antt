use Rattle.std.proofs.Common.{◌+◌, ◌++◌, ℕ, get_or, refl, take}
use Rattle.c25_prompt.specs.Outputs.{at_step}
use Rattle.c25_prompt.proofs.LastOf.{kept_few}
use Rattle.c25_prompt.proofs.PutOut.{kept_output}
use Rattle.c25_prompt.proofs.outputs.keep_outputs.Goals as goal

pub loop-port-preserved : goal.loop-port-preserved
loop-port-preserved c =
    let most = c.args.most in
    let outputs = c.args.outputs.now in
    let old = c.args.kept.now.items in
    let i = c.loop-port.port-index in
    let d : ℕ × ℕ = (0, 0) in
    let item = get_or outputs i d in
    let kept =
    kept_output most c.args.steps i d outputs old c.loop-port.kept.items c.keep_last.new.kept.items (record { steps = c.args.steps; port = item.0; word = item.1 }) c.loop-port-test.true refl c.loop-port.invariant.kept c.in_ok-keep_last.ensures in
    record { few = kept_few most (old ++ at_step c.args.steps (take (i + 1) outputs)) c.keep_last.new.kept.items kept; kept = kept }
