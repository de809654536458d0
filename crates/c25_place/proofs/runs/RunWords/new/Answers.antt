use Rattle.c25_place.proofs.Elsewhere.{runs_none}
use Rattle.c25_place.proofs.runs.RunWords.new.Goals as goal

pub returns : goal.returns
returns c = runs_none (record { taken = c.in_ok-free_words.field-0 }) c.in_ok-free_words.ensures
