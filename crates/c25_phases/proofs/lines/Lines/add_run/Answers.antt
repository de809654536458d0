use Rattle.c25_phases.proofs.Filed.{few_next}
use Rattle.c25_phases.proofs.lines.Lines.add_run.Goals as goal

pub add-requires : goal.add-requires
add-requires c = few_next c.args.file.now c.args.numbers.now c.loop-number.number-index 0 c.loop-number.self _ 65535 c.loop-number-test.true c.loop-number.invariant c.requires
