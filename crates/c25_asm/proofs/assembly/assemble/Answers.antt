use Rattle.c25_meaning_assembly.specs.ModuleOfSource.{assembled}
use Rattle.c25_asm.proofs.Made.{listed_meets}
use Rattle.c25_asm.proofs.assembly.assemble.Goals as goal

pub returns : goal.returns
returns c = listed_meets (assembled c.args.files.now c.args.name.now) c.assemble_lines.result c.assemble_lines.ensures
