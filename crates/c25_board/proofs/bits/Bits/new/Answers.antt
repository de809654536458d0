use Rattle.c25_board.proofs.OneBit.{no_bit}
use Rattle.c25_board.proofs.bits.Bits.new.Goals as goal

pub returns : goal.returns
returns c = no_bit 1024
