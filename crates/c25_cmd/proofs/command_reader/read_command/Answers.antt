use Rattle.c25_cmd.specs.View.{command_data, tokens_of}
use Rattle.c25_cmd.proofs.Kept.{tokens_keep}
use Rattle.c25_cmd.proofs.command_reader.read_command.Goals as goal

pub returns-in-Ok-clause-kept : goal.returns-in-Ok-clause-kept
returns-in-Ok-clause-kept c = tokens_keep (tokens_of c.as_slice.result.now) (command_data c.in-Ok.command) c.in-Ok.ensures
