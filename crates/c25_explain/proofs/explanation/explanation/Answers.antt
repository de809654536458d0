use Rattle.c25_explain.proofs.explanation.explanation.Goals as goal

pub returns : goal.returns
returns c = (c.in_ok-fault_of.field-0, c.in_ok-fault_of.ensures, c.explanation_of.ensures)
