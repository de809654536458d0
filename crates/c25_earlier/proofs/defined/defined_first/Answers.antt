use Rattle.std.proofs.Common.{sym, ◌∙◌}
use Rattle.c25_earlier.proofs.InOrder.{not_here}
use Rattle.c25_earlier.proofs.defined.defined_first.Goals as goal

pub loop-name-preserved : goal.loop-name-preserved
loop-name-preserved c = λ line rest.
    c.loop-name.invariant line (not_here c.args.files.now c.args.source.now c.args.names.now c.loop-name.name-index _ c.loop-name-test.true line
    (sym c.is_predefined.ensures ∙ c.if-is_predefined.false) (rw c.in_default.is at c.in_ok-line.ensures) rest)
