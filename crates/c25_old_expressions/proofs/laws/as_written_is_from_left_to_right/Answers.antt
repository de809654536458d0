use Rattle.c25_old_expressions.proofs.Complete.{is_read}
use Rattle.c25_old_expressions.proofs.LeftToRight.{left_to_right}
use Rattle.c25_old_expressions.proofs.laws.as_written_is_from_left_to_right.Goals as goal

pub returns-clause-read : goal.returns-clause-read
returns-clause-read c = left_to_right

pub returns-clause-complete : goal.returns-clause-complete
returns-clause-complete c = is_read
