use Rattle.c25_options.proofs.program.with_old_options.Goals as goal

pub returns : goal.returns
returns c = λ shape command.
    let command = c.with_argument-command.ensures _ _ command c.style.ensures.rule in
    let command = c.with_argument-command-2.ensures _ _ command c.long_order.ensures.rule in
    let command = c.with_argument-command-3.ensures _ _ command c.code_page.ensures.rule in
    c.with_argument.ensures _ _ command c.flag.ensures.rule
