use Rattle.c25_layout_laws.proofs.LayoutWords.{layout_command}
use Rattle.c25_layout_laws.proofs.lines.command_files_are_read.Goals as goal

pub returns : goal.returns
returns c = layout_command
