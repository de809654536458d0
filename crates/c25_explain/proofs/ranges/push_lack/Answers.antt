use Rattle.std.proofs.Common.{arith}
use Rattle.std.proofs.lemmas.Grind.{common_steps}
use Rattle.c25_explain.proofs.ranges.push_lack.Goals as goal

pub returns-in-OnPage : goal.returns-in-OnPage
returns-in-OnPage c = grind (arith, common_steps)
