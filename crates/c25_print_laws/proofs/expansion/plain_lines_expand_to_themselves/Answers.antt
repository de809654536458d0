use Rattle.c25_print_laws.proofs.PlainLines.{plain_line, plain_source}
use Rattle.c25_print_laws.proofs.expansion.plain_lines_expand_to_themselves.Goals as goal

pub returns-clause-line : goal.returns-clause-line
returns-clause-line c = plain_line

pub returns-clause-source : goal.returns-clause-source
returns-clause-source c = plain_source
