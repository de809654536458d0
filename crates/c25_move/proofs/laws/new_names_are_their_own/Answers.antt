use Rattle.c25_move_lines.proofs.Names.{name_stands_nowhere, names_differ}
use Rattle.c25_move.proofs.laws.new_names_are_their_own.Goals as goal

pub returns : goal.returns
returns c = record { stands_nowhere = name_stands_nowhere; differ = names_differ }
