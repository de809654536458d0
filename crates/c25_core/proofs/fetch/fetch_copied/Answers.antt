use Rattle.std.proofs.Common.{rules}
use Rattle.c25_core.proofs.fetch.fetch_copied.Goals as goal

pub returns-then-size_of-mark : goal.returns-then-size_of-mark
returns-then-size_of-mark c = search rules
