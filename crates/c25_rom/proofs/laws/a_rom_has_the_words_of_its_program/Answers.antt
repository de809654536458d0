use Rattle.c25_rom.proofs.RomLaws.{has_word, has_fill, reads_word}
use Rattle.c25_rom.proofs.laws.a_rom_has_the_words_of_its_program.Goals as goal

pub returns-clause-program : goal.returns-clause-program
returns-clause-program c = has_word

pub returns-clause-read_back : goal.returns-clause-read_back
returns-clause-read_back c = reads_word

pub returns-clause-fill : goal.returns-clause-fill
returns-clause-fill c = has_fill
