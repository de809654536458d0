use Rattle.c25_run_laws.proofs.Joined.{words_end_once}
use Rattle.c25_run_laws.proofs.runs.words_end_once.Goals as goal

pub returns : goal.returns
returns c = words_end_once
