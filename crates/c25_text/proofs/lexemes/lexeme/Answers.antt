use Rattle.std.proofs.Common.{arith}
use Rattle.std.proofs.lemmas.Grind.{common_steps}
use Rattle.c25_meaning_language.specs.Lexeme.{lexeme}
use Rattle.c25_text.proofs.lexemes.lexeme.Goals as goal

pub returns-in-34-clause-value : goal.returns-in-34-clause-value
unfolding lexeme
returns-in-34-clause-value c = grind (arith, common_steps)

pub returns-in-46-clause-value : goal.returns-in-46-clause-value
unfolding lexeme
returns-in-46-clause-value c = grind (arith, common_steps)
