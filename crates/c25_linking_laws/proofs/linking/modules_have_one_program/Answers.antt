use Rattle.c25_linking_laws.proofs.OneProgram.{program_once}
use Rattle.c25_linking_laws.proofs.linking.modules_have_one_program.Goals as goal

pub returns : goal.returns
returns c = program_once
