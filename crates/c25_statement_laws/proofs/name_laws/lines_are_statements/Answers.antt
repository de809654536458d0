use Rattle.c25_statement_laws.proofs.StatementsTraced.{line_found, lines_traced, statements_traced}
use Rattle.c25_statement_laws.proofs.name_laws.lines_are_statements.Goals as goal

pub returns-clause-statements : goal.returns-clause-statements
returns-clause-statements c files names modules places = statements_traced files names modules places

pub returns-clause-lines : goal.returns-clause-lines
returns-clause-lines c files names modules command image of p = (lines_traced files names modules command image of p, p.lines.ascend)

pub returns-clause-found : goal.returns-clause-found
returns-clause-found c files names modules command image of p = line_found files names modules command image of p
