use Rattle.c25_rom.specs.Bytes.{high, low}
use Rattle.c25_rom.proofs.RomLaws.{sized, half_there}
use Rattle.c25_rom.proofs.laws.each_byte_is_a_half_of_its_word.Goals as goal

pub returns-clause-sized : goal.returns-clause-sized
returns-clause-sized c = λ program size fill. (sized program size fill high, sized program size fill low)

pub returns-clause-high : goal.returns-clause-high
returns-clause-high c = λ program size fill address below. half_there program size fill address high below

pub returns-clause-low : goal.returns-clause-low
returns-clause-low c = λ program size fill address below. half_there program size fill address low below
