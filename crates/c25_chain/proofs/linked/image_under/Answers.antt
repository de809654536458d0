use Rattle.c25_cmd.specs.View.{command_data}
use Rattle.c25_chain.proofs.Texts.{links_text, told_command}
use Rattle.c25_chain.proofs.linked.image_under.Goals as goal

pub returns : goal.returns
returns c =
    let command = command_data c.in_ok-command.command in
    links_text c.args.modules.now c.args.command.now command c.image_of.result (told_command c.args.command.now command c.in_ok-command.ensures.told) c.image_of.ensures
