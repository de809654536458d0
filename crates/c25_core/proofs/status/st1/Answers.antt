use Rattle.std.proofs.Common.{rules}
use Rattle.c25_meaning_processor.specs.Status.{st1}
use Rattle.c25_core.proofs.status.st1.Goals as goal

pub returns : goal.returns
unfolding st1
returns c = search rules
