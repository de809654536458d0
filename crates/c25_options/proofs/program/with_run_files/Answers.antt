use Rattle.c25_options.proofs.program.with_run_files.Goals as goal

pub returns : goal.returns
returns c = λ shape command.
    let command = c.with_argument-command.ensures _ _ command c.command_file.ensures.rule in
    let command = c.with_argument-command-2.ensures _ _ command c.option-samples.ensures.rule in
    c.with_argument.ensures _ _ command c.option-schedule.ensures.rule
