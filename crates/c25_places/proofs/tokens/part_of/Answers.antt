use Rattle.std.proofs.Common.{arith}
use Rattle.c25_places.proofs.TokenFacts.{between, end_got}
use Rattle.c25_places.proofs.tokens.part_of.Goals as goal

pub overflow_add-result : goal.overflow_add-result
overflow_add-result c = omega (arith, end_got 0 18446744073709551615 c.args.tokens.now _ c.in-Some-Some.last.now c.requires c.in-Some-Some.ensures'.value)

pub returns-in-Some-Some : goal.returns-in-Some-Some
returns-in-Some-Some c = between c.args.tokens.now c.in-Some-Some.first.now c.in-Some-Some.last.now c.in-Some-Some.ensures.value c.in-Some-Some.ensures'.value
