use Rattle.c25_options.proofs.program.with_image_options.Goals as goal

pub returns : goal.returns
returns c = λ shape command.
    let command = c.with_argument-command.ensures _ _ command c.option-high.ensures.rule in
    let command = c.with_argument-command-2.ensures _ _ command c.option-low.ensures.rule in
    let command = c.with_argument-command-3.ensures _ _ command c.flag-binary.ensures.rule in
    let command = c.with_argument-command-4.ensures _ _ command c.flag-low_first.ensures.rule in
    let command = c.with_argument-command-5.ensures _ _ command c.blank.ensures.rule in
    c.with_argument.ensures _ _ command c.option-hints.ensures.rule
