use Rattle.std.proofs.Common.{◌∙◌}
use Rattle.c25_text.specs.View.{parts_of}
use Rattle.c25_line_faults.proofs.Faults.{limited}
use Rattle.c25_line_faults.proofs.expansion_lines.definition_fault.Goals as goal

pub returns-in-None : goal.returns-in-None
returns-in-None c = c.number_fault.ensures ∙ limited (parts_of c.args.line.now) c.args.operands.now c.in-None.ensures
