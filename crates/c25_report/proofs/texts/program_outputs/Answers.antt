use Rattle.std.proofs.Common.{rules}
use Rattle.c25_report.proofs.texts.program_outputs.Goals as goal

pub returns : goal.returns
returns c = search rules
