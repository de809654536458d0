use Rattle.c25_file_hints.proofs.Causes.{too_late}
use Rattle.c25_file_hints.proofs.laws.a_refused_step_comes_too_late.Goals as goal

pub returns : goal.returns
returns c = too_late
