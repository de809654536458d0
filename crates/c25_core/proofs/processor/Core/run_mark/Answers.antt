use Rattle.std.proofs.Common.{rules}
use Rattle.c25_core.proofs.processor.Core.run_mark.Goals as goal

pub returns : goal.returns
returns c = search rules
