use Rattle.c25_options.proofs.program.with_source_options.Goals as goal

pub returns : goal.returns
returns c = λ shape command.
    let command = c.with_argument-command.ensures _ _ command c.definitions.ensures.rule in
    c.with_argument.ensures _ _ command c.folders.ensures.rule
