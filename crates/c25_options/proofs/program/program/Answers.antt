use Rattle.c25_options.proofs.program.program.Goals as goal

pub returns : goal.returns
returns c =
    let program = c.with_subcommand-program.ensures _ _ c.bare_program.ensures c.asm.ensures in
    let program = c.with_subcommand-program-2.ensures _ _ program c.link.ensures in
    let program = c.with_subcommand-program-3.ensures _ _ program c.build.ensures in
    let program = c.with_subcommand-program-4.ensures _ _ program c.run.ensures in
    let program = c.with_subcommand-program-5.ensures _ _ program c.debug.ensures in
    let program = c.with_subcommand-program-6.ensures _ _ program c.explain.ensures in
    let program = c.with_subcommand-program-7.ensures _ _ program c.dis.ensures in
    let program = c.with_subcommand-program-8.ensures _ _ program c.check.ensures in
    c.with_subcommand.ensures _ _ program c.moving.ensures
