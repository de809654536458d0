use Rattle.c25_guide.proofs.Sums.{through_shifter_is}
use Rattle.c25_guide.proofs.laws.products_pass_the_shifter.Goals as goal

pub returns : goal.returns
returns c = through_shifter_is
