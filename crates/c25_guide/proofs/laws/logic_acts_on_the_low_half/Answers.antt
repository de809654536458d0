use Rattle.c25_guide.proofs.Sums.{and_halves, or_halves, xor_halves}
use Rattle.c25_guide.proofs.laws.logic_acts_on_the_low_half.Goals as goal

pub returns : goal.returns
returns c = record { ands = and_halves; ors = or_halves; xors = xor_halves }
