use Rattle.std.proofs.Common.{arith}
use Rattle.std.proofs.lemmas.Option.{slice_get_within}
use Rattle.c25_link.proofs.Owned.{are_more}
use Rattle.c25_link.proofs.layout.are_modules.Goals as goal

pub loop-module-preserved : goal.loop-module-preserved
loop-module-preserved c = are_more c.args.modules.now c.loop-module.module-index c.module-item.result c.loop-module-test.true c.module-item.is c.parts-parts.ensures.spelled c.loop-module.invariant

pub returns-clause-each : goal.returns-clause-each
returns-clause-each c = λ number m is. c.loop-module.invariant number m (omega (arith, slice_get_within c.args.modules.now number m is)) is
