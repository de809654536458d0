use Rattle.c25_laws.proofs.SectionsInB0.{section_runs}
use Rattle.c25_laws.proofs.program_laws.sections_held_in_b0_run.Goals as goal

pub returns : goal.returns
returns c files names modules command image w of p im = section_runs files names modules command image of p w im
