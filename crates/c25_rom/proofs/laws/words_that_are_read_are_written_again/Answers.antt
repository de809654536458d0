use Rattle.c25_rom.proofs.ByteLaws.{highs_again, lows_again}
use Rattle.c25_rom.proofs.laws.words_that_are_read_are_written_again.Goals as goal

pub returns-clause-high : goal.returns-clause-high
returns-clause-high c = highs_again

pub returns-clause-low : goal.returns-clause-low
returns-clause-low c = lows_again
