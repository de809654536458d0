use Rattle.c25_run_laws.proofs.Image.{covered}
use Rattle.c25_run_laws.proofs.runs.started_words_are_code.Goals as goal

pub returns : goal.returns
returns c = covered
