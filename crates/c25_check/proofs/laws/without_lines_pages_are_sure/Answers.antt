use Rattle.c25_check.specs.Checking.{operands_meant}
use Rattle.c25_check.proofs.Silent.{sure}
use Rattle.c25_check.proofs.laws.without_lines_pages_are_sure.Goals as goal

pub returns : goal.returns
returns c = λ explain files sources modules image. sure c.without_warnings_pages_are_sure.ensures explain (operands_meant files sources modules image) image
