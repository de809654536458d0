use Rattle.std.proofs.Common.{◌%◌}
use Rattle.c25_board.proofs.OneBit.{bit_shows}
use Rattle.c25_board.proofs.bits.Bits.has.Goals as goal

pub returns : goal.returns
returns c =
    rw (c.word_of.ensures, c.mask_of.ensures) (bit_shows _ (c.args.address % 64))
