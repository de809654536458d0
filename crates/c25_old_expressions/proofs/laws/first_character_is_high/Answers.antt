use Rattle.c25_old_expressions.proofs.Characters.{high_and_low}
use Rattle.c25_old_expressions.proofs.laws.first_character_is_high.Goals as goal

pub returns : goal.returns
returns c = high_and_low
