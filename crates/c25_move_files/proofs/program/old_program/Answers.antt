use Rattle.c25_move_files.proofs.Each.{program_spelled}
use Rattle.c25_move_files.proofs.Refusing.{hex_refused}
use Rattle.c25_move_files.proofs.program.old_program.Goals as goal

pub returns-in-Ok : goal.returns-in-Ok
returns-in-Ok g c = record {
  words = program_spelled (g.D.Disk.bytes_of c.args.disk.now) c.args.name.now _ _ c.words_of.result c.in-Ok.ensures.text c.as_str.ensures.value c.words_of.ensures.words;
  refused = hex_refused (g.D.Disk.bytes_of c.args.disk.now) c.args.name.now _ _ c.words_of.result c.in-Ok.ensures.text c.as_str.ensures.value c.words_of.ensures.refused;
}
