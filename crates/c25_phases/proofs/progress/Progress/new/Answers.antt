use Rattle.std.proofs.Common.{rules}
use Rattle.c25_phases.proofs.progress.Progress.new.Goals as goal

pub returns : goal.returns
returns c = search rules
