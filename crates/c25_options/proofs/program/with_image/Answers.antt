use Rattle.c25_options.proofs.program.with_image.Goals as goal

pub returns : goal.returns
returns c = λ shape command.
    let command = c.with_argument-command.ensures _ _ command c.option.ensures.rule in
    c.with_image_options.ensures _ command
