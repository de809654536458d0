use Rattle.c25_prompt.proofs.OneAnswer.{one_answer}
use Rattle.c25_prompt.proofs.laws.commands_have_one_answer.Goals as goal

pub returns : goal.returns
returns c signals image first command p q r s t v w =
    one_answer c.words_end_once.ensures c.words_have_one_reading.ensures signals image first command p q r s t v w
