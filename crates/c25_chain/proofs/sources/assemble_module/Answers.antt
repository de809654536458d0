use Rattle.c25_meaning_assembly.specs.ModuleOfSource.{assembled}
use Rattle.c25_chain.proofs.Alone.{module_found, module_refused}
use Rattle.c25_chain.proofs.sources.assemble_module.Goals as goal

pub returns-in-Ok : goal.returns-in-Ok
returns-in-Ok c = module_found (assembled c.args.files.now c.args.name.now) c.in-Ok.alone c.in-Ok.ensures

pub returns-in-Err : goal.returns-in-Err
returns-in-Err c = module_refused (assembled c.args.files.now c.args.name.now) c.in-Err.failure c.failed.result c.in-Err.ensures c.failed.ensures
