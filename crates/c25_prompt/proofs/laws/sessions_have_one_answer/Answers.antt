use Rattle.c25_meaning_processor.specs.WordStep.{WordStep}
use Rattle.c25_prompt.proofs.Displayed.{session_same}
use Rattle.c25_prompt.proofs.laws.sessions_have_one_answer.Goals as goal

pub returns : goal.returns
returns c signals program first =
    session_same WordStep signals program first c.words_have_one_reading.ensures (λ command p q r s t v w. c.commands_have_one_answer.ensures signals program.image first command p q r s t v w)
