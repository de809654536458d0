use Rattle.std.proofs.Common.{rules}
use Rattle.c25_report.proofs.ending.Report.without_note.Goals as goal

pub returns-clause-ending : goal.returns-clause-ending
returns-clause-ending c = search rules
