use Rattle.std.proofs.Common.{rules}
use Rattle.c25_report.proofs.printing.print_line.Goals as goal

pub returns : goal.returns
returns c = search rules
