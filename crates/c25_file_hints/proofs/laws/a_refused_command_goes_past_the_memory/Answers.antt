use Rattle.c25_file_hints.proofs.PastMemory.{past_memory}
use Rattle.c25_file_hints.proofs.laws.a_refused_command_goes_past_the_memory.Goals as goal

pub returns : goal.returns
returns c = past_memory
