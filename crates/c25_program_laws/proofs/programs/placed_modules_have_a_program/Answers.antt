use Rattle.c25_program_laws.proofs.Made.{program_of}
use Rattle.c25_program_laws.proofs.programs.placed_modules_have_a_program.Goals as goal

pub returns : goal.returns
returns c = program_of
