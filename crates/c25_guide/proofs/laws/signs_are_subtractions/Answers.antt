use Rattle.c25_guide.proofs.Sums.{with_sign_16_is, with_sign_32_is}
use Rattle.c25_guide.proofs.laws.signs_are_subtractions.Goals as goal

pub returns : goal.returns
returns c = record { word = with_sign_16_is; acc = with_sign_32_is }
