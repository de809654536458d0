use Rattle.c25_options.proofs.program.with_run_results.Goals as goal

pub returns : goal.returns
returns c = λ shape command.
    let command = c.with_argument-command.ensures _ _ command c.flag.ensures.rule in
    let command = c.with_argument-command-2.ensures _ _ command c.flag-2.ensures.rule in
    let command = c.with_argument-command-3.ensures _ _ command c.option.ensures.rule in
    c.with_argument.ensures _ _ command c.option-2.ensures.rule
