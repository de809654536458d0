use Rattle.c25_meaning_assembly.specs.AllFaults.{address_label}
use Rattle.c25_statements.specs.View.{statement_of}
use Rattle.c25_phases.specs.View.{progress_of}
use Rattle.c25_phases.proofs.LeftOut.{label_is, same_label}
use Rattle.c25_phases.proofs.line_reader.pass_text.Goals as goal

pub returns-in-Ok-clause-kept : goal.returns-in-Ok-clause-kept
returns-in-Ok-clause-kept c =
    same_label (statement_of c.in-Ok.statement).label (address_label c.args.text.now) (progress_of c.args.progress.now) (progress_of c.pass.new.self) c.pass.result
    (label_is c.args.text.now (statement_of c.in-Ok.statement) c.in-Ok.ensures) c.pass.ensures.kept
