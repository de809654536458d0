use Rattle.c25_pages.specs.Program.{statements_of}
use Rattle.c25_pages.proofs.Inductively.{inductive_rows}
use Rattle.c25_pages.proofs.inductive.verify.Goals as goal

pub returns : goal.returns
returns c =
    inductive_rows (statements_of c.args.program.now) c.args.table.now c.in_ok-verify_reset.ensures c.in_ok-verify_acts.ensures c.in_ok-verify_repeats.ensures c.in_ok-verify_interrupts.ensures
