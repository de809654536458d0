use Rattle.std.proofs.Common.{rules}
use Rattle.c25_core.proofs.fetch.fetch_plain.Goals as goal

pub returns-then-size_of-size : goal.returns-then-size_of-size
returns-then-size_of-size c = search rules
