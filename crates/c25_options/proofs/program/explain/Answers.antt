use Rattle.c25_options.proofs.program.explain.Goals as goal

pub returns : goal.returns
returns c =
    let command = c.subcommand-command.ensures in
    c.with_argument.ensures _ _ command c.optional.ensures.rule
