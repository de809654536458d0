use Rattle.c25_options.proofs.program.run.Goals as goal

pub returns : goal.returns
returns c =
    let command = c.subcommand-command.ensures in
    let command = c.with_optional_sources-command.ensures _ command in
    let command = c.with_argument-command.ensures _ _ command c.steps.ensures.rule in
    let command = c.with_run_results-command.ensures _ command in
    let command = c.with_run_files-command.ensures _ command in
    let command = c.with_image-command.ensures _ command in
    let command = c.with_source_options-command.ensures _ command in
    c.with_fault_options.ensures _ command
