use Rattle.c25_rom.proofs.ByteLaws.{pair_back, file_back}
use Rattle.c25_rom.proofs.laws.written_bytes_are_read_back.Goals as goal

pub returns-clause-pair : goal.returns-clause-pair
returns-clause-pair c = pair_back

pub returns-clause-file : goal.returns-clause-file
returns-clause-file c = file_back
