use Rattle.std.proofs.Common.{ap, ◌∙◌, take}
use Rattle.std.specs.Str.Lines.{lines}
use Rattle.c25_meaning_expansion.specs.Rows.{rows_from}
use Rattle.c25_files.proofs.Lines.{take_rows}
use Rattle.c25_files.proofs.rows.Rows.of_file.Goals as goal

pub returns : goal.returns
returns c = ap (λ n. take n (rows_from c.args.file 1 (lines c.args.text.now))) c.requires.counted ∙ take_rows c.args.file 1 (lines c.args.text.now)
