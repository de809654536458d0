use Rattle.c25_options.proofs.program.build.Goals as goal

pub returns : goal.returns
returns c =
    let command = c.subcommand-command.ensures in
    let command = c.with_sources-command.ensures _ command in
    let command = c.with_argument-command.ensures _ _ command c.base_name-base.ensures.rule in
    let command = c.with_argument-command-2.ensures _ _ command c.command_file.ensures.rule in
    let command = c.with_argument-command-3.ensures _ _ command c.option.ensures.rule in
    let command = c.with_rom_options-command.ensures _ command in
    let command = c.with_source_options-command.ensures _ command in
    c.with_fault_options.ensures _ command
