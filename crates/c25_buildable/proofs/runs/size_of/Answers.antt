use Rattle.std.proofs.Common.{arith}
use Rattle.c25_buildable.proofs.Sizes.{fits}
use Rattle.c25_buildable.proofs.runs.size_of.Goals as goal

pub overflow_add-size : goal.overflow_add-size
overflow_add-size c = let some = fits c.args.rows.now c.loop-row.row-index c.row-item.result c.loop-row-test.true c.row-item.is in omega (arith, some, c.loop-row.invariant, c.words_in-size.ensures, c.requires)
