use Rattle.c25_absolute_operands.proofs.Assembled.{has_lines}
use Rattle.c25_absolute_operands.proofs.laws.assembled_sources_have_lines.Goals as goal

pub returns : goal.returns
returns c = has_lines
