use Rattle.c25_options.proofs.program.moving.Goals as goal

pub returns : goal.returns
returns c =
    let command = c.subcommand-command.ensures in
    let command = c.with_argument-command.ensures _ _ command c.operands-sources.ensures.rule in
    let command = c.with_argument-command-2.ensures _ _ command c.folder.ensures.rule in
    let command = c.with_argument-command-3.ensures _ _ command c.option.ensures.rule in
    let command = c.with_old_options-command.ensures _ command in
    let command = c.with_argument-command-4.ensures _ _ command c.option-2.ensures.rule in
    c.with_argument.ensures _ _ command c.flag.ensures.rule
