use Rattle.c25_linking_laws.proofs.RunsFit.{has_run_marks}
use Rattle.c25_linking_laws.proofs.linking.instructions_run_apart.Goals as goal

pub returns : goal.returns
returns c = has_run_marks
