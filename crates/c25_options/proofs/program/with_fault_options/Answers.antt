use Rattle.c25_options.proofs.program.with_fault_options.Goals as goal

pub returns : goal.returns
returns c = λ shape command.
    let command = c.with_explain-command.ensures _ command in
    c.with_argument.ensures _ _ command c.flag.ensures.rule
