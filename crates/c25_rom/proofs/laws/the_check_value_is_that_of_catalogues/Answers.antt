use Rattle.std.proofs.Common.{refl}
use Rattle.c25_rom.specs.Checks.{crc32, after_byte, after_bit}
use Rattle.c25_rom.proofs.laws.the_check_value_is_that_of_catalogues.Goals as goal

pub returns : goal.returns
unfolding crc32 after_byte after_bit
returns c = refl
