use Rattle.c25_laws.specs.ProgramStatements.{program_statements}
use Rattle.c25_statement_laws.specs.StatementLines.{traced_statements}
use Rattle.c25_debugger_laws.proofs.ScriptsAnswered.{script_answered}
use Rattle.c25_debugger_laws.proofs.laws.scripts_are_answered_from_statements.Goals as goal

pub returns : goal.returns
returns c files names modules command image of p =
    script_answered (traced_statements files names modules p.places) (program_statements files names modules p.places) image (c.where_and_list_are_statements.ensures.places files names modules command image of p)
    (c.where_and_list_are_statements.ensures.lists files names modules command image of p)
