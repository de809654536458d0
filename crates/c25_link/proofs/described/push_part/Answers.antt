use Rattle.std.proofs.Common.{arith}
use Rattle.std.proofs.lemmas.Grind.{text_groups}
use Rattle.c25_link.proofs.described.push_part.Goals as goal

pub returns : goal.returns
returns c = λ other. grind (arith, text_groups)
