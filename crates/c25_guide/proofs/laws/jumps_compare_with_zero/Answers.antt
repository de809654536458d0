use Rattle.c25_guide.proofs.Sums.{less, less_or_equal, greater, greater_or_equal}
use Rattle.c25_guide.proofs.laws.jumps_compare_with_zero.Goals as goal

pub returns : goal.returns
returns c = record { less = less; less_or_equal = less_or_equal; greater = greater; greater_or_equal = greater_or_equal }
