use Rattle.c25_old_expressions.proofs.Valued.{read_by_level, tree_by_level}
use Rattle.c25_old_expressions.proofs.laws.by_level_is_the_assemblers.Goals as goal

pub returns-clause-read : goal.returns-clause-read
returns-clause-read c = tree_by_level

pub returns-clause-complete : goal.returns-clause-complete
returns-clause-complete c = read_by_level
