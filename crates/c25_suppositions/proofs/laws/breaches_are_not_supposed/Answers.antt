use Rattle.c25_suppositions.proofs.Breaching.{breach_is_one}
use Rattle.c25_suppositions.proofs.laws.breaches_are_not_supposed.Goals as goal

pub returns : goal.returns
returns c = breach_is_one
