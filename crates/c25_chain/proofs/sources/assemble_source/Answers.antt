use Rattle.c25_meaning_assembly.specs.ModuleOfSource.{assembled}
use Rattle.c25_chain.proofs.Alone.{fails_as}
use Rattle.c25_chain.proofs.sources.assemble_source.Goals as goal

pub returns-in-Err : goal.returns-in-Err
returns-in-Err c = fails_as (assembled c.args.files.now c.args.name.now) c.in-Err.failure c.failed.result c.in-Err.ensures c.failed.ensures
