use Rattle.c25_print_laws.proofs.PlainLines.{lines_skipped}
use Rattle.c25_print_laws.proofs.expansion.lines_of_a_false_if_are_skipped.Goals as goal

pub returns : goal.returns
returns c = lines_skipped
