use Rattle.c25_chain.proofs.OneProgram.{one_program}
use Rattle.c25_chain.proofs.laws.sources_have_one_program.Goals as goal

pub returns : goal.returns
returns c = one_program c.modules_have_one_program.ensures
