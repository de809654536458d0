use Rattle.std.proofs.Common.{arith}
use Rattle.c25_place.proofs.placement.base_in.Goals as goal

pub returns-in-None-clause-base : goal.returns-in-None-clause-base
returns-in-None-clause-base c = λ page places blocks k f. (omega (arith, c.if-size-eq0.false), c.in-None.ensures.fit page places blocks k f)
