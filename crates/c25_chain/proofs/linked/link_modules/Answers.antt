use Rattle.c25_chain.proofs.Texts.{is_linked}
use Rattle.c25_chain.proofs.linked.link_modules.Goals as goal

pub returns-in-Ok : goal.returns-in-Ok
returns-in-Ok c =
    let image = c.in_ok-image.image in
    let under = c.in_ok-image.ensures in
    is_linked c.args.modules.now c.args.command.now under.command image c.in-Ok.linked under.read under.program
    (c.program_maps_have_their_form.ensures.places c.args.modules.now under.command image under.program) c.in-Ok.ensures
