use Rattle.std.proofs.Common.{arith}
use Rattle.std.proofs.lemmas.Grind.{common_steps}
use Rattle.c25_meaning_linking.specs.CommandMemory.{extent_at}
use Rattle.c25_cmd.proofs.memory.extent_at.Goals as goal

pub shares_word-requires-clause-within : goal.shares_word-requires-clause-within
shares_word-requires-clause-within c = omega (arith, c.if-from.false, c.from.ensures, c.from-else-length-eq0.ensures, c.from-else-length-eq0-2.ensures)

pub returns-clause-within : goal.returns-clause-within
returns-clause-within c = omega (arith, c.if-from.false, c.from.ensures, c.from-else-length-eq0.ensures, c.from-else-length-eq0-2.ensures)

pub returns-clause-given : goal.returns-clause-given
unfolding extent_at
returns-clause-given c = grind (arith, common_steps)
