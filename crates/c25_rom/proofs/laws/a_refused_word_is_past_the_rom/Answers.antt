use Rattle.c25_rom.proofs.RomLaws.{is_past}
use Rattle.c25_rom.proofs.laws.a_refused_word_is_past_the_rom.Goals as goal

pub returns : goal.returns
returns c = is_past
