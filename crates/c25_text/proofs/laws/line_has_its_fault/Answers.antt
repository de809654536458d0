use Rattle.c25_text.proofs.Splits.{fault_is}
use Rattle.c25_text.proofs.laws.line_has_its_fault.Goals as goal

pub returns : goal.returns
returns c = fault_is
