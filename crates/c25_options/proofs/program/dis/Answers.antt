use Rattle.c25_options.proofs.program.dis.Goals as goal

pub returns : goal.returns
returns c =
    let command = c.subcommand-command.ensures in
    let command = c.with_argument-command.ensures _ _ command c.optional.ensures.rule in
    let command = c.with_argument-command-2.ensures _ _ command c.first_address.ensures.rule in
    let command = c.with_argument-command-3.ensures _ _ command c.flag.ensures.rule in
    let command = c.with_image_options-command.ensures _ command in
    let command = c.with_argument-command-4.ensures _ _ command c.optional_base.ensures.rule in
    c.with_explain.ensures _ command
