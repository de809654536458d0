use Rattle.c25_guide.proofs.Sums.{added_is, subtracted_is, divided_is}
use Rattle.c25_guide.proofs.laws.sums_are_carried.Goals as goal

pub returns : goal.returns
returns c = record { sums = added_is; differences = subtracted_is; divisions = divided_is }
