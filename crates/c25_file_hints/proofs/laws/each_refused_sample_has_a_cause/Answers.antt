use Rattle.c25_file_hints.proofs.Causes.{sample}
use Rattle.c25_file_hints.proofs.laws.each_refused_sample_has_a_cause.Goals as goal

pub returns : goal.returns
returns c = sample
