use Rattle.c25_tasks.proofs.Lines.{ends}
use Rattle.c25_tasks.proofs.laws.lines_end_with_headings.Goals as goal

pub returns : goal.returns
returns c = ends
