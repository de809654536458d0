use Rattle.std.proofs.Common.{rules}
use Rattle.c25_files.proofs.files.Files.new.Goals as goal

pub returns : goal.returns
returns c = search rules
