use Rattle.c25_meaning_instructions.proofs.Readings.{one_reading}
use Rattle.c25_meaning_instructions.proofs.laws.words_have_one_reading.Goals as goal

pub returns : goal.returns
returns c = one_reading
