use Rattle.std.proofs.Common.{rules}
use Rattle.c25_files.proofs.rows.Rows.into_passage.Goals as goal

pub returns-clause-rest : goal.returns-clause-rest
returns-clause-rest c = search rules
