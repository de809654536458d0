use Rattle.std.proofs.Common.{rules}
use Rattle.c25_files.proofs.text.Text.rows.Goals as goal

pub returns : goal.returns
returns c = search rules
