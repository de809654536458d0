use Rattle.c25_image_laws.proofs.FirstStates.{firsts_alike}
use Rattle.c25_image_laws.proofs.runs.same_words_begin_alike.Goals as goal

pub returns : goal.returns
returns c = firsts_alike
