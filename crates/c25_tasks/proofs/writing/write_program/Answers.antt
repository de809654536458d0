use Rattle.c25_tasks.proofs.Written.{program_written}
use Rattle.c25_tasks.proofs.writing.write_program.Goals as goal

pub returns : goal.returns
returns g c = λ held. program_written held c.args.notes c.args.base.now c.texts_of.result c.args.program _ _ _ c.texts_of.ensures (c.write_texts.ensures held)
