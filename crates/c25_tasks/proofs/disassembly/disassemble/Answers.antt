use Rattle.c25_tasks.proofs.Tasks.{does_disassemble}
use Rattle.c25_tasks.proofs.disassembly.disassemble.Goals as goal

pub returns : goal.returns
returns g c =
    does_disassemble (g.D.Disk.bytes_of c.args.disk.now) _ c.notes_under.result c.args.explain _ _ _ c.args.printing c.without_definitions.ensures c.notes_under.ensures c.print_asked.ensures
