use Rattle.c25_cmd.proofs.Kept.{text_keeps}
use Rattle.c25_cmd.proofs.laws.spelled_commands_keep_the_rules.Goals as goal

pub returns : goal.returns
returns c = text_keeps
