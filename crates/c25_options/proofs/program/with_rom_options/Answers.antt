use Rattle.c25_options.proofs.program.with_rom_options.Goals as goal

pub returns : goal.returns
returns c = λ shape command.
    let command = c.with_argument-command.ensures _ _ command c.rom_size.ensures.rule in
    c.with_argument.ensures _ _ command c.fill_word.ensures.rule
